-- Order 2's equality of strict parameters, `same_ty []`: it is an equality; name for name on types without Forall; it holds exactly where
-- renaming bound names leads from one type to the other; and which of two names is bound cannot be exchanged, where either is free under the
-- Forall.
use mathlib.Core.Path.{◌≡◌, refl, sym, subst, ap, ap₂, ◌∙◌}
use mathlib.Core.Logic.{◌↔◌, ◌≢◌}
use Prim.Native.Nat.{ℕ, zero, suc, ◌+◌, ◌≤◌, ◌<◌}
use native.Mathlib.Omega.{arith}
use native.Mathlib.Nat.{le_refl, not-suc-le-zero}
use mathlib.Core.Bool.{Bool, true, false, not, ◌&&◌, ◌||◌}
use mathlib.Core.List.{[], ◌∷◌, map}
use mathlib.Core.Option.{Option, none, some}
use lib.Dec.{T, eqb→eq, eqb_refl}
use mir.Facts.{no_eqb}
use Rattle.definition.specs.Syntax.{pick, TyVar, Ty, int, bool, var, etvar, arrow, forall, Ctx, parameter_mismatch}
use Rattle.definition.specs.Run.{done, fail, give, refuse}
use Rattle.definition.specs.Types.{same_name, is_mono, apply}
use Rattle.definition.specs.Rules.{ty_code, as_var, as_etvar, as_arrow, as_forall, ◌or_else◌, on, Letters, same_var, same_ty, parameter}
use Rattle.laws.specs.Letters.{stands, free, renamed, Relettered, relettered, unchanged, back, further, in_arrow, in_forall}
use Rattle.laws.proofs.Steps.{is_true, is_false, neither, bind_done}

-- ## Tests

no : {X : Type 0} → false ≡ true → X
no e = absurd (subst (λ (b : Bool). T b) (sym e) tt)

both : (p q : Bool) → (p && q) ≡ true → (p ≡ true) × (q ≡ true)
both true q e = (refl, e)
both false q e = no e

second : (p : Bool) {q : Bool} → q ≡ true → (p || q) ≡ true
second true e = refl
second false e = e

one_name : (a b : TyVar) → same_name a b ≡ true → a ≡ b
unfolding same_name
one_name a b e = ap (λ n. record { number = n }) (eqb→eq a.number b.number (rw e tt))

own_name : (a : TyVar) → same_name a a ≡ true
unfolding same_name
own_name a = is_true _ (eqb_refl a.number)

name_sym : (a b : TyVar) → same_name a b ≡ same_name b a
name_sym a b = by (same_name a b) (same_name b a) refl refl
  where
    by : (p q : Bool) → same_name a b ≡ p → same_name b a ≡ q → p ≡ q
    by true q e f = sym (own_name b) ∙ ap (same_name b) (sym (one_name a b e)) ∙ f
    by false true e f = sym e ∙ ap (same_name a) (one_name b a f) ∙ own_name a
    by false false e f = refl

-- ## The test as a relation

data SameAs : Letters → Ty → Ty → Type 0 where
  ints : {ls : Letters} → SameAs ls int int
  bools : {ls : Letters} → SameAs ls bool bool
  vars : {ls : Letters} {a b : TyVar} → same_var ls a b ≡ true → SameAs ls (var a) (var b)
  etvars : {ls : Letters} {a : TyVar} → SameAs ls (etvar a) (etvar a)
  arrows : {ls : Letters} {A A' B B' : Ty} → SameAs ls A B → SameAs ls A' B' → SameAs ls (arrow A A') (arrow B B')
  foralls : {ls : Letters} {a b : TyVar} {A B : Ty} → SameAs ((a, b) ∷ ls) A B → SameAs ls (forall a A) (forall b B)

passed : {ls : Letters} {A B : Ty} → SameAs ls A B → same_ty ls A B ≡ true
unfolding same_ty on ◌or_else◌ ty_code as_var as_etvar as_arrow as_forall
passed ints = refl
passed bools = refl
passed (vars t) = t
passed (etvars {a = a}) = own_name a
passed (arrows s s') = ap₂ ◌&&◌ (passed s) (passed s')
passed (foralls s) = passed s

related : (ls : Letters) (A B : Ty) → same_ty ls A B ≡ true → SameAs ls A B
unfolding same_ty on ◌or_else◌ ty_code as_var as_etvar as_arrow as_forall
related ls int int t = ints
related ls int bool t = no t
related ls int (var b) t = no t
related ls int (etvar b) t = no t
related ls int (arrow B B') t = no t
related ls int (forall b B) t = no t
related ls bool int t = no t
related ls bool bool t = bools
related ls bool (var b) t = no t
related ls bool (etvar b) t = no t
related ls bool (arrow B B') t = no t
related ls bool (forall b B) t = no t
related ls (var a) int t = no t
related ls (var a) bool t = no t
related ls (var a) (var b) t = vars t
related ls (var a) (etvar b) t = no t
related ls (var a) (arrow B B') t = no t
related ls (var a) (forall b B) t = no t
related ls (etvar a) int t = no t
related ls (etvar a) bool t = no t
related ls (etvar a) (var b) t = no t
related ls (etvar a) (etvar b) t = rw (one_name a b t) etvars
related ls (etvar a) (arrow B B') t = no t
related ls (etvar a) (forall b B) t = no t
related ls (arrow A A') int t = no t
related ls (arrow A A') bool t = no t
related ls (arrow A A') (var b) t = no t
related ls (arrow A A') (etvar b) t = no t
related ls (arrow A A') (arrow B B') t = let p = both (same_ty ls A B) _ t in arrows (related ls A B p.0) (related ls A' B' p.1)
related ls (arrow A A') (forall b B) t = no t
related ls (forall a A) int t = no t
related ls (forall a A) bool t = no t
related ls (forall a A) (var b) t = no t
related ls (forall a A) (etvar b) t = no t
related ls (forall a A) (arrow B B') t = no t
related ls (forall a A) (forall b B) t = foralls (related ((a, b) ∷ ls) A B t)

-- "Var is not ETVar": types of different codes are not the same
same_code : {ls : Letters} {A B : Ty} → SameAs ls A B → ty_code A ≡ ty_code B
unfolding ty_code
same_code ints = refl
same_code bools = refl
same_code (vars t) = refl
same_code etvars = refl
same_code (arrows s s') = refl
same_code (foralls s) = refl

pub other_forms : (ls : Letters) (A B : Ty) → ty_code A ≢ ty_code B → same_ty ls A B ≡ false
other_forms ls A B h = by (same_ty ls A B) refl
  where
    by : (p : Bool) → same_ty ls A B ≡ p → p ≡ false
    by true e = absurd (h (same_code (related ls A B e)))
    by false e = refl

-- ## An equality

-- under one Forall more: the same letter on both sides; the sides exchanged; through a third type
own_step : (p : Bool) {r : Bool} → (p ≡ false → r ≡ true) → pick (p || p) (p && p) r ≡ true
unfolding pick
own_step true h = refl
own_step false h = h refl

swap_step : (p q : Bool) {r s : Bool} → pick (p || q) (p && q) r ≡ true → (r ≡ true → s ≡ true) → pick (q || p) (q && p) s ≡ true
unfolding pick
swap_step true true e h = refl
swap_step true false e h = e
swap_step false true e h = e
swap_step false false e h = h e

chain_step : (p q r : Bool) {s t u : Bool} → pick (p || q) (p && q) s ≡ true → pick (q || r) (q && r) t ≡ true
    → (s ≡ true → t ≡ true → u ≡ true) → pick (p || r) (p && r) u ≡ true
unfolding pick
chain_step true true true e f h = refl
chain_step true true false e f h = f
chain_step true false r e f h = no e
chain_step false true r e f h = no e
chain_step false false true e f h = f
chain_step false false false e f h = h e f

-- where each name that stands in a type means itself
own : (ls : Letters) (A : Ty) → ((c : TyVar) → stands c A ≡ true → same_var ls c c ≡ true) → SameAs ls A A
unfolding stands same_var
own ls int h = ints
own ls bool h = bools
own ls (var a) h = vars (h a (own_name a))
own ls (etvar a) h = etvars
own ls (arrow A B) h = arrows (own ls A (λ c e. h c (rw e))) (own ls B (λ c e. h c (second (stands c A) e)))
own ls (forall a A) h = foralls (own ((a, a) ∷ ls) A (λ c e. own_step (same_name a c) (λ f. h c (rw (f, e)))))

pub reflexive : (A : Ty) → same_ty [] A A ≡ true
unfolding same_var
reflexive A = passed (own [] A (λ c e. own_name c))

swapped : Letters → Letters
swapped = map (λ l. (l.1, l.0))

swap_var : (ls : Letters) (a b : TyVar) → same_var ls a b ≡ true → same_var (swapped ls) b a ≡ true
unfolding same_var swapped
swap_var [] a b e = name_sym b a ∙ e
swap_var ((c, d) ∷ ls) a b e = swap_step (same_name c a) (same_name d b) e (swap_var ls a b)

swap : {ls : Letters} {A B : Ty} → SameAs ls A B → SameAs (swapped ls) B A
unfolding swapped
swap ints = ints
swap bools = bools
swap {ls} (vars {a = a} {b = b} e) = vars (swap_var ls a b e)
swap etvars = etvars
swap (arrows s s') = arrows (swap s) (swap s')
swap (foralls s) = foralls (swap s)

pub symmetric : (A B : Ty) → same_ty [] A B ≡ true → same_ty [] B A ≡ true
unfolding swapped
symmetric A B e = passed (swap (related [] A B e))

-- the letters of three types, two by two
data Chain : Letters → Letters → Letters → Type 0 where
  start : Chain [] [] []
  link : {a b c : TyVar} {ls ms ns : Letters} → Chain ls ms ns → Chain ((a, b) ∷ ls) ((b, c) ∷ ms) ((a, c) ∷ ns)

chain_var : {ls ms ns : Letters} → Chain ls ms ns → (a b c : TyVar) → same_var ls a b ≡ true → same_var ms b c ≡ true → same_var ns a c ≡ true
unfolding same_var
chain_var start a b c e f = rw (one_name a b e) f
chain_var (link {a = x} {b = y} {c = z} k) a b c e f = chain_step (same_name x a) (same_name y b) (same_name z c) e f (chain_var k a b c)

chain : {ls ms ns : Letters} {A B C : Ty} → Chain ls ms ns → SameAs ls A B → SameAs ms B C → SameAs ns A C
chain k ints ints = ints
chain k bools bools = bools
chain k (vars e) (vars f) = vars (chain_var k _ _ _ e f)
chain k etvars etvars = etvars
chain k (arrows s s') (arrows u u') = arrows (chain k s u) (chain k s' u')
chain k (foralls s) (foralls u) = foralls (chain (link k) s u)

pub transitive : (A B C : Ty) → same_ty [] A B ≡ true → same_ty [] B C ≡ true → same_ty [] A C ≡ true
transitive A B C e f = passed (chain start (related [] A B e) (related [] B C f))

-- ## Name for name on types without Forall

without : {A B : Ty} → is_mono A ≡ true → SameAs [] A B → A ≡ B
unfolding is_mono
without m ints = refl
without m bools = refl
without m (vars {a = a} {b = b} e) = ap var (one_name a b (unfold same_var in e))
without m etvars = refl
without m (arrows {A = A} s s') = let p = both (is_mono A) _ m in ap₂ arrow (without p.0 s) (without p.1 s')
without m (foralls s) = no m

pub name_for_name : (A B : Ty) → is_mono A ≡ true → (same_ty [] A B ≡ true) ↔ (A ≡ B)
name_for_name A B m = (λ e. without m (related [] A B e), λ e. rw e (reflexive B))

-- ## A bound name may be renamed

-- where a and b mean the same, and each other name that stands in a type means itself
rename : (a b : TyVar) (ls : Letters) (A : Ty) → same_var ls a b ≡ true
    → ((c : TyVar) → stands c A ≡ true → same_name c a ≡ false → same_var ls c c ≡ true) → stands b A ≡ false → SameAs ls A (renamed a b A)
unfolding same_var stands renamed pick
rename a b ls int k h s = ints
rename a b ls bool k h s = bools
rename a b ls (var c) k h s = by (same_name c a) refl
  where
    by : (p : Bool) → same_name c a ≡ p → SameAs ls (var c) (pick p (var b) (var c))
    by true e = rw (one_name c a e) (vars k)
    by false e = vars (h c (own_name c) e)
rename a b ls (etvar c) k h s = etvars
rename a b ls (arrow A B) k h s =
    let p = neither (stands b A) _ s in
    arrows (rename a b ls A k (λ c e. h c (rw e)) p.0) (rename a b ls B k (λ c e. h c (second (stands c A) e)) p.1)
rename a b ls (forall c A) k h s =
    foralls (by (same_name c a) refl (λ e. rename a b ((c, c) ∷ ls) A (rw (e, p.0) k) (λ d f g. own_step (same_name c d) (λ i. inside d f g i)) p.1))
  where
    p : (same_name c b ≡ false) × (stands b A ≡ false)
    p = neither (same_name c b) _ s

    inside : (d : TyVar) → stands d A ≡ true → same_name d a ≡ false → same_name c d ≡ false → same_var ls d d ≡ true
    inside d e f g = h d (rw (g, e)) f

    by : (q : Bool) → same_name c a ≡ q → (same_name c a ≡ false → SameAs ((c, c) ∷ ls) A (renamed a b A)) → SameAs ((c, c) ∷ ls) A (pick q A (renamed a b A))
    by true e f = own ((c, c) ∷ ls) A (λ d i. own_step (same_name c d) (λ g. inside d i (name_sym d a ∙ ap (λ x. same_name x d) (sym (one_name c a e)) ∙ g) g))
    by false e f = f e

pub renaming : (a b : TyVar) (A : Ty) → stands b A ≡ false → same_ty [] (forall a A) (forall b (renamed a b A)) ≡ true
unfolding same_var pick
renaming a b A s = passed (foralls (rename a b ((a, b) ∷ []) A (rw (own_name a, own_name b)) others s))
  where
    others : (c : TyVar) → stands c A ≡ true → same_name c a ≡ false → same_var ((a, b) ∷ []) c c ≡ true
    others c e f = by (same_name b c) refl
      where
        by : (p : Bool) → same_name b c ≡ p → same_var ((a, b) ∷ []) c c ≡ true
        by true g = no (sym s ∙ ap (λ x. stands x A) (one_name b c g) ∙ e)
        by false g = rw (name_sym a c, f, g) (own_name c)

-- ## Exactly so do they differ only in the names bound by Forall

-- a Forall of one letter on both sides changes nothing
test_ext : {X : Type 0} (o : Option X) {p q : X → Bool} → ((x : X) → p x ≡ q x) → (on o p or_else false) ≡ (on o q or_else false)
unfolding on ◌or_else◌
test_ext none h = refl
test_ext (some x) h = h x

same_ext : (ls ms : Letters) → ((c d : TyVar) → same_var ls c d ≡ same_var ms c d) → (A B : Ty) → same_ty ls A B ≡ same_ty ms A B
unfolding same_ty same_var
same_ext ls ms h int B = refl
same_ext ls ms h bool B = refl
same_ext ls ms h (var a) B = test_ext (as_var B) (h a)
same_ext ls ms h (etvar a) B = refl
same_ext ls ms h (arrow A A') B = test_ext (as_arrow B) (λ (C, C'). ap₂ ◌&&◌ (same_ext ls ms h A C) (same_ext ls ms h A' C'))
same_ext ls ms h (forall a A) B =
    test_ext (as_forall B) (λ (b, C). same_ext ((a, b) ∷ ls) ((a, b) ∷ ms)
    (λ c d. ap (pick (same_name a c || same_name b d) (same_name a c && same_name b d)) (h c d)) A C)

one_letter : (a c d : TyVar) → same_var ((a, a) ∷ []) c d ≡ same_var [] c d
unfolding same_var pick
one_letter a c d = by (same_name a c) (same_name a d) refl refl
  where
    by : (p q : Bool) → same_name a c ≡ p → same_name a d ≡ q → pick (p || q) (p && q) (same_name c d) ≡ same_name c d
    by true true e f = rw (← one_name a c e, ← one_name a d f, own_name a)
    by true false e f = rw (← one_name a c e, f)
    by false true e f = rw (← one_name a d f, name_sym c a, e)
    by false false e f = refl

under : (a : TyVar) (A B : Ty) → same_ty [] (forall a A) (forall a B) ≡ same_ty [] A B
unfolding same_ty on ◌or_else◌ as_forall
under a A B = same_ext ((a, a) ∷ []) [] (one_letter a) A B

relettered_same : {A B : Ty} → Relettered A B → same_ty [] A B ≡ true
unfolding same_ty on ◌or_else◌ as_arrow
relettered_same (relettered a b A s) = renaming a b A s
relettered_same (unchanged A) = reflexive A
relettered_same (back {A = A} {B = B} r) = symmetric A B (relettered_same r)
relettered_same (further {A = A} {B = B} {C = C} r s) = transitive A B C (relettered_same r) (relettered_same s)
relettered_same (in_arrow r s) = ap₂ ◌&&◌ (relettered_same r) (relettered_same s)
relettered_same (in_forall a {A = A} {B = B} r) = under a A B ∙ relettered_same r

-- a name above all that stand in a type
unfoldable above : Ty → ℕ
above int = 0
above bool = 0
above (var c) = suc c.number
above (etvar c) = 0
above (arrow A B) = above A + above B
above (forall c A) = suc c.number + above A

larger : (c b : TyVar) → c.number < b.number → same_name c b ≡ false
unfolding same_name
larger c b h = let z : c.number ≢ b.number = λ e. omega arith in is_false _ (no_eqb z)

stands_not : (b : TyVar) (A : Ty) → above A ≤ b.number → stands b A ≡ false
unfolding above stands
stands_not b int h = refl
stands_not b bool h = refl
stands_not b (var c) h = larger c b (omega arith)
stands_not b (etvar c) h = refl
stands_not b (arrow A B) h = ap₂ ◌||◌ (stands_not b A (omega arith)) (stands_not b B (omega arith))
stands_not b (forall c A) h = ap₂ ◌||◌ (larger c b (omega arith)) (stands_not b A (omega arith))

-- what falls from a type to its parts, renamed or not
unfoldable depth : Ty → ℕ
depth int = 0
depth bool = 0
depth (var c) = 0
depth (etvar c) = 0
depth (arrow A B) = suc (depth A + depth B)
depth (forall c A) = suc (depth A)

renamed_depth : (a b : TyVar) (A : Ty) → depth (renamed a b A) ≡ depth A
unfolding renamed depth pick
renamed_depth a b int = refl
renamed_depth a b bool = refl
renamed_depth a b (var c) = by (same_name c a)
  where
    by : (p : Bool) → depth (pick p (var b) (var c)) ≡ 0
    by true = refl
    by false = refl
renamed_depth a b (etvar c) = refl
renamed_depth a b (arrow A B) = rw (renamed_depth a b A, renamed_depth a b B)
renamed_depth a b (forall c A) = by (same_name c a) (renamed_depth a b A)
  where
    by : (p : Bool) → depth (renamed a b A) ≡ depth A → suc (depth (pick p A (renamed a b A))) ≡ suc (depth A)
    by true e = refl
    by false e = ap suc e

-- both bodies with one new letter
abbrev new : Ty → Ty → TyVar
new A B = record { number = above A + above B }

opened : (a b : TyVar) (A B : Ty) → same_ty [] (forall a A) (forall b B) ≡ true
    → same_ty [] (renamed a (new A B) A) (renamed b (new A B) B) ≡ true
opened a b A B e =
    let c = new A B in
    let p = renaming a c A (stands_not c A (omega arith)) in
    let q = renaming b c B (stands_not c B (omega arith)) in
    sym (under c (renamed a c A) (renamed b c B))
    ∙ transitive _ (forall a A) _ (symmetric (forall a A) _ p) (transitive (forall a A) (forall b B) _ e q)

reletters : (n : ℕ) {A B : Ty} → depth A < n → SameAs [] A B → Relettered A B
unfolding depth
reletters zero h s = absurd (not-suc-le-zero h)
reletters (suc n) h ints = unchanged int
reletters (suc n) h bools = unchanged bool
reletters (suc n) h (vars {a = a} {b = b} e) = rw (one_name a b (unfold same_var in e)) (unchanged (var b))
reletters (suc n) h (etvars {a = a}) = unchanged (etvar a)
reletters (suc n) h (arrows s s') = in_arrow (reletters n (omega arith) s) (reletters n (omega arith) s')
reletters (suc n) h (foralls {a = a} {b = b} {A = A} {B = B} s) =
    let c = new A B in
    let r = related [] (renamed a c A) (renamed b c B) (opened a b A B (passed (foralls s))) in
    further (relettered a c A (stands_not c A (omega arith)))
    (further (in_forall c (reletters n (omega (arith, renamed_depth a c A)) r)) (back (relettered b c B (stands_not c B (omega arith)))))

pub only_bound_names : (A B : Ty) → (same_ty [] A B ≡ true) ↔ Relettered A B
only_bound_names A B = (λ e. reletters (suc (depth A)) (le_refl (suc (depth A))) (related [] A B e), relettered_same)

-- ## What strict ChkLam does

-- once application has made P' of the expected parameter
pub compares : (Γ : Ctx) (A P : Ty) {P' : Ty} (l n : ℕ) {l' n' : ℕ} → apply Γ P l n ≡ done P' l' n'
    → parameter true Γ A P l n ≡ pick (same_ty [] A P') (give tt) (refuse (parameter_mismatch A P')) l' n'
unfolding parameter
compares Γ A P l n e = bind_done (apply Γ P) _ l n e

-- with P' from application: it goes on for nothing where the written A differs from P' in no more, and else refuses
pub strict_parameter : (Γ : Ctx) (A P : Ty) {P' : Ty} (l n : ℕ) {l' n' : ℕ} → apply Γ P l n ≡ done P' l' n'
    → (Relettered A P' → parameter true Γ A P l n ≡ done tt l' n') × ((Relettered A P' → ⊥) → parameter true Γ A P l n ≡ fail (parameter_mismatch A P') l')
unfolding give refuse pick
strict_parameter Γ A P {P'} l n {l'} {n'} e = (λ r. compares Γ A P l n e ∙ rw ((only_bound_names A P').1 r) refl, λ h. compares Γ A P l n e ∙ by (same_ty [] A P') refl h)
  where
    by : (p : Bool) → same_ty [] A P' ≡ p → (Relettered A P' → ⊥) → pick p (give (tt {0})) (refuse (parameter_mismatch A P')) l' n' ≡ fail (parameter_mismatch A P') l'
    by true f h = absurd (h ((only_bound_names A P').0 f))
    by false f h = refl

pub plain_parameter : (Γ : Ctx) (A P : Ty) (l n : ℕ) → parameter false Γ A P l n ≡ done tt l n
unfolding parameter give
plain_parameter Γ A P l n = refl

-- ## "A bound name is not a free one of the same number"

-- a name that does not mean itself is not free in what is the same as itself
not_itself : (x : TyVar) (ls : Letters) → same_var ls x x ≡ false → (A : Ty) → same_ty ls A A ≡ true → free x A ≡ false
unfolding same_ty same_var on ◌or_else◌ as_var as_arrow as_forall free pick
not_itself x ls h int e = refl
not_itself x ls h bool e = refl
not_itself x ls h (var c) e = by (same_name c x) refl
  where
    by : (p : Bool) → same_name c x ≡ p → p ≡ false
    by true f = no (sym h ∙ ap (λ y. same_var ls y y) (sym (one_name c x f)) ∙ e)
    by false f = refl
not_itself x ls h (etvar c) e = refl
not_itself x ls h (arrow A B) e =
    let p = both (same_ty ls A A) _ e in
    ap₂ ◌||◌ (not_itself x ls h A p.0) (not_itself x ls h B p.1)
not_itself x ls h (forall c A) e = by (same_name c x) refl (λ f. not_itself x ((c, c) ∷ ls) (rw (f, h)) A e)
  where
    by : (p : Bool) → same_name c x ≡ p → (same_name c x ≡ false → free x A ≡ false) → (not p && free x A) ≡ false
    by true f g = refl
    by false f g = g f

-- the Forall's letter exchanged with one that is free under it, or its own name set free
pub exchanging : (a b : TyVar) (A : Ty) → same_name a b ≡ false → (free a A || free b A) ≡ true → same_ty [] (forall a A) (forall b A) ≡ false
unfolding same_ty same_var on ◌or_else◌ as_forall pick
exchanging a b A h f = by (same_ty ((a, b) ∷ []) A A) refl
  where
    by : (p : Bool) → same_ty ((a, b) ∷ []) A A ≡ p → p ≡ false
    by true e =
        let x = not_itself a ((a, b) ∷ []) (rw (own_name a, name_sym b a, h)) A e in
        let y = not_itself b ((a, b) ∷ []) (rw (h, own_name b)) A e in
        no (sym (ap₂ ◌||◌ x y) ∙ f)
    by false e = refl
