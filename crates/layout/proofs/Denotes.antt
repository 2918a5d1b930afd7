-- Laws of what references and runs denote: what stays when words stay, and what is made when words are put.
use mathlib.Core.Path.{◌≡◌, refl, sym, ◌∙◌, ap}
use mathlib.Core.Bool.{Bool, true, false}
use mathlib.Core.List.{List, [], ◌∷◌, ◌++◌}
use Prim.Native.Nat.{ℕ, ◌+◌, ◌-◌, ◌*◌, ◌≤◌, ◌<◌}
use native.Mathlib.Nat.{le_trans, lt_of_not-le}
use native.Mathlib.Decide.{dec_le}
use native.Mathlib.Omega.{arith}
use lib.ListN.{length, get_or}
use Rattle.definition.specs.Syntax.{TyVar, Ty, int, bool, etvar, arrow, forall, Binding, Entry, of_question, Ctx}
use Rattle.definition.specs.Types.{is_mono}
use Rattle.definition.specs.Rules.{ty_code}
use Rattle.definition.specs.Contexts.{Key, k_var, k_tvar, k_etvar, k_setvar, k_mark, binding_key, key_of, kind_of, name_of, binding_type, held}
use Rattle.layout.specs.Sizes.{BASE, INT, BOOL, ENDS}
use Rattle.layout.specs.Words.{Keep, Put2, Put4}
use Rattle.layout.specs.Places.{size, TyAt}
use Rattle.layout.specs.Monotypes.{with_mono, mono_at, past, mono_of}
use Rattle.layout.specs.Denotes.{capped, MadeAt, Den, written, int_made, bool_made, etvar_made, arrow_made, forall_made, AsEntry, EntryAt, PutEntry, CtxAt, nil, cons, Run, Base}
use Rattle.layout.specs.declared.Entry as program
use Rattle.layout.proofs.Places.{code_small, end_small, ty_code_lem, expr_code_lem}
use Rattle.layout.proofs.Monotypes.{kept_number, kept_mono, mono_in_question, mono_in_work, number_stays}

-- ## Types

made_frame : {t t' h r i n : ℕ} {w w' : List ℕ} {T : Ty} → Keep t h w w' → t ≤ t' → 1 ≤ n → MadeAt w t r i n T → MadeAt w' t' r i n T
made_frame {i = i} kp le h m =
    let b = m.below in
    record { ref = m.ref; below = le_trans b le; is = sym (kp.below i (omega arith)) ∙ m.is }

pub den_frame : {q w w' : List ℕ} {t t' h r : ℕ} {T : Ty} → Keep t h w w' → t ≤ t' → Den q w t r T → Den q w' t' r T
den_frame kp le (written d) = written d
den_frame kp le (int_made m) = int_made (made_frame kp le (omega arith) m)
den_frame kp le (bool_made m) = bool_made (made_frame kp le (omega arith) m)
den_frame kp le (etvar_made {i = i} m n) =
    let b = m.below in
    etvar_made (made_frame kp le (omega arith) m) (sym (kp.below (i + 1) (omega arith)) ∙ n)
den_frame kp le (arrow_made {i = i} m x y f g s d e) =
    let b = m.below in
    arrow_made (made_frame kp le (omega arith) m) x y
    (sym (kp.below (i + 1) (omega arith)) ∙ f)
    (sym (kp.below (i + 2) (omega arith)) ∙ g)
    (sym (kp.below (i + 3) (omega arith)) ∙ s)
    (den_frame kp le d)
    (den_frame kp le e)
den_frame kp le (forall_made {i = i} m y n g s d) =
    let b = m.below in
    forall_made (made_frame kp le (omega arith) m) y
    (sym (kp.below (i + 1) (omega arith)) ∙ n)
    (sym (kp.below (i + 2) (omega arith)) ∙ g)
    (sym (kp.below (i + 3) (omega arith)) ∙ s)
    (den_frame kp le d)

-- a reference below 2048 is a place of the question
pub den_written : {q w : List ℕ} {t r : ℕ} {T : Ty} → r < BASE → Den q w t r T → TyAt q r T
den_written h (written d) = d
den_written h (int_made m) = absurd (omega (arith, m.ref))
den_written h (bool_made m) = absurd (omega (arith, m.ref))
den_written h (etvar_made m n) = absurd (omega (arith, m.ref))
den_written h (arrow_made m x y f g s d e) = absurd (omega (arith, m.ref))
den_written h (forall_made m y n g s d) = absurd (omega (arith, m.ref))

pub den_small : {q w : List ℕ} {t r : ℕ} {T : Ty} → Den q w t r T → r < BASE + t
den_small (written d) = let c = ty_code_lem d in omega (arith, c.inside)
den_small (int_made m) = omega (arith, m.ref, m.below)
den_small (bool_made m) = omega (arith, m.ref, m.below)
den_small (etvar_made m n) = omega (arith, m.ref, m.below)
den_small (arrow_made m x y f g s d e) = omega (arith, m.ref, m.below)
den_small (forall_made m y n g s d) = omega (arith, m.ref, m.below)

-- ## What is put at t is a type

pub etvar_put : {q w w' : List ℕ} {t n : ℕ} (a : TyVar) → n ≡ a.number → Put2 w w' t (with_mono 4 true) n → Den q w' (t + 2) (BASE + t) (etvar a)
unfolding ty_code is_mono
etvar_put {t = t} a e p = etvar_made {i = t} (record { ref = refl; below = omega arith; is = p.w0 }) (p.w1 ∙ e)

pub arrow_put : {q w w' : List ℕ} {t l m n : ℕ} {b : Bool} {A B : Ty} → b ≡ is_mono (arrow A B) → Put4 w w' t (with_mono 5 b) l m n
    → n ≡ capped (size (arrow A B)) → Den q w t l A → Den q w t m B → Den q w' (t + 4) (BASE + t) (arrow A B)
unfolding ty_code
arrow_put {t = t} f p s d e =
    arrow_made {i = t} (record { ref = refl; below = omega arith; is = p.w0 ∙ ap (with_mono 5) f }) (den_small d) (den_small e) p.w1 p.w2 (p.w3 ∙ s)
    (den_frame p.keep (omega arith) d)
    (den_frame p.keep (omega arith) e)

pub forall_put : {q w w' : List ℕ} {t b m n : ℕ} {A : Ty} (a : TyVar) → b ≡ a.number → Put4 w w' t (with_mono 6 false) b m n
    → n ≡ capped (size (forall a A)) → Den q w t m A → Den q w' (t + 4) (BASE + t) (forall a A)
unfolding ty_code is_mono
forall_put {t = t} a f p s d =
    forall_made {i = t} (record { ref = refl; below = omega arith; is = p.w0 }) (den_small d) (p.w1 ∙ f) p.w2 (p.w3 ∙ s)
    (den_frame p.keep (omega arith) d)

-- ## The bottom of work

in_table : {q w : List ℕ} {t p : ℕ} → Base q w t → p < BASE → ENDS + p < t
in_table b l = omega (arith, b.floor)

pub base_frame : {q w w' : List ℕ} {t t' h : ℕ} → Keep t h w w' → t ≤ t' → Base q w t → Base q w' t'
base_frame kp le b = record {
  floor = le_trans b.floor le;
  int_is = sym (kp.below 0 (omega (arith, b.floor))) ∙ b.int_is;
  bool_is = sym (kp.below 1 (omega (arith, b.floor))) ∙ b.bool_is;
  end_ty = λ p A d. sym (kp.below (ENDS + p) (in_table b (ty_code_lem d).inside)) ∙ b.end_ty p A d;
  past_expr = λ p e d. sym (number_stays kp (in_table b (expr_code_lem d).inside)) ∙ b.past_expr p e d;
}

pub int_den : {q w : List ℕ} {t : ℕ} → Base q w t → Den q w t INT int
unfolding ty_code is_mono
int_den b = int_made {i = 0} (record { ref = refl; below = omega (arith, b.floor); is = b.int_is })

pub bool_den : {q w : List ℕ} {t : ℕ} → Base q w t → Den q w t BOOL bool
unfolding ty_code is_mono
bool_den b = bool_made {i = 1} (record { ref = refl; below = omega (arith, b.floor); is = b.bool_is })

-- the place past a type of the question
pub past_ty : {q w : List ℕ} {t p : ℕ} {A : Ty} → Base q w t → TyAt q p A → past w p ≡ p + size A
past_ty {p = p} {A = A} b d = kept_number (p + size A) (is_mono A) (b.end_ty p A d) (end_small d)

-- ## The monotype mark

made_mono : {w : List ℕ} {t r i n : ℕ} {T : Ty} → MadeAt w t r i n T → mono_at w (r - BASE) ≡ is_mono T
made_mono {r = r} {i = i} {T = T} m =
    let e : r - BASE ≡ i = omega (arith, m.ref) in
    rw e (kept_mono (ty_code T) (is_mono T) m.is (code_small T))

in_record : {q w : List ℕ} {t r : ℕ} {T : Ty} → BASE ≤ r → Den q w t r T → mono_at w (r - BASE) ≡ is_mono T
in_record h (written d) = absurd (omega (arith, (ty_code_lem d).inside))
in_record h (int_made m) = made_mono m
in_record h (bool_made m) = made_mono m
in_record h (etvar_made m n) = made_mono m
in_record h (arrow_made m x y f g s d e) = made_mono m
in_record h (forall_made m y n g s d) = made_mono m

-- the stored mark is the walk, whatever the reference denotes
pub mono_is_walk : {q w : List ℕ} {t r : ℕ} {T : Ty} → Base q w t → Den q w t r T → mono_of w r ≡ is_mono T
mono_is_walk {w = w} {r = r} {T = T} b d = elim (dec_le BASE r) [
  | yes l ↦ sym (mono_in_work w r l) ∙ in_record l d
  | no l ↦ let c = den_written (lt_of_not-le l) d in
      sym (mono_in_question w r (lt_of_not-le l)) ∙ kept_mono (r + size T) (is_mono T) (b.end_ty r T c) (end_small c)
]

-- ## Runs of entries

entry_move : {q w w' : List ℕ} {t t' h at to : ℕ} {e : Entry} → Keep t h w w' → t ≤ t' → to + 4 ≤ t'
    → get_or w' to 0 ≡ get_or w at 0 → get_or w' (to + 1) 0 ≡ get_or w (at + 1) 0 → get_or w' (to + 2) 0 ≡ get_or w (at + 2) 0
    → EntryAt q w t at e → EntryAt q w' t' to e
entry_move kp le h a b c x = record {
  ref = x.ref;
  below = h;
  kind = a ∙ x.kind;
  name = b ∙ x.name;
  ref_is = c ∙ x.ref_is;
  den = den_frame kp le x.den;
}

-- where the words of a run stand again, so does the run
pub ctx_move : {q w w' : List ℕ} {t t' h at : ℕ} (to : ℕ) {Γ : Ctx} → Keep t h w w' → t ≤ t' → to + 4 * length Γ ≤ t'
    → ((j : ℕ) → j < 4 * length Γ → get_or w' (to + j) 0 ≡ get_or w (at + j) 0)
    → CtxAt q w t at Γ → CtxAt q w' t' to Γ
ctx_move to kp le h s nil = nil
ctx_move {w = w} {w' = w'} to kp le h s (cons {at} {e} {Γ} x g) =
    cons
    (entry_move kp le (omega arith) (word 0 (omega arith)) (s 1 (omega arith)) (s 2 (omega arith)) x)
    (ctx_move (to + 4) kp le (omega arith) (λ j l. step j (omega arith)) g)
  where
    word : (j : ℕ) → j < 1 → get_or w' to 0 ≡ get_or w at 0
    word j l =
        let a : to ≡ to + 0 = omega arith in
        let b : at + 0 ≡ at = omega arith in
        ap (λ (i : ℕ). get_or w' i 0) a ∙ s 0 (omega arith) ∙ ap (λ (i : ℕ). get_or w i 0) b

    step : (j : ℕ) → 4 + j < 4 * length (e ∷ Γ) → get_or w' (to + 4 + j) 0 ≡ get_or w (at + 4 + j) 0
    step j l =
        let a : to + 4 + j ≡ to + (4 + j) = omega arith in
        let b : at + (4 + j) ≡ at + 4 + j = omega arith in
        ap (λ (i : ℕ). get_or w' i 0) a ∙ s (4 + j) l ∙ ap (λ (i : ℕ). get_or w i 0) b

-- a run stays where its words stay
pub ctx_frame : {q w w' : List ℕ} {t t' h at : ℕ} {Γ : Ctx} → Keep t h w w' → t ≤ t' → CtxAt q w t at Γ → CtxAt q w' t' at Γ
ctx_frame kp le nil = nil
ctx_frame kp le (cons {at} x g) =
    let b = x.below in
    cons
    (entry_move kp le (omega arith) (sym (kp.below at (omega arith))) (sym (kp.below (at + 1) (omega arith)))
    (sym (kp.below (at + 2) (omega arith))) x)
    (ctx_frame kp le g)

pub run_frame : {q w w' : List ℕ} {t t' h at n : ℕ} {Γ : Ctx} → Keep t h w w' → t ≤ t' → Run q w t at n Γ → Run q w' t' at n Γ
run_frame kp le r = record { ctx = ctx_frame kp le r.ctx; count = r.count; below = le_trans r.below le }

-- the stored mark of the type in the entry that stands behind those of L
pub entry_mono : {q w : List ℕ} {t at : ℕ} (L : Ctx) (e : Entry) (R : Ctx) → Base q w t → CtxAt q w t at (L ++ (e ∷ R))
    → mono_of w (get_or w (at + 4 * length L + 2) 0) ≡ is_mono (held e)
entry_mono {at = at} [] e R b (cons x g) = let a : at + 4 * 0 + 2 ≡ at + 2 = omega arith in rw (a, x.ref_is) (mono_is_walk b x.den)
entry_mono {at = at} (f ∷ L) e R b (cons x g) = let a : at + 4 * length (f ∷ L) + 2 ≡ at + 4 + 4 * length L + 2 = omega arith in rw a (entry_mono {at = at + 4} L e R b g)

-- two runs, one after the other
pub ctx_join : {q w : List ℕ} {t at : ℕ} (L : Ctx) {R : Ctx} → CtxAt q w t at L → CtxAt q w t (at + 4 * length L) R → CtxAt q w t at (L ++ R)
ctx_join {at = at} [] {R} nil h = let a : at + 4 * 0 ≡ at = omega arith in rw a at h
ctx_join {q} {w} {t} {at} (f ∷ L) {R} (cons x g) h =
    let a : at + 4 * length (f ∷ L) ≡ at + 4 + 4 * length L = omega arith in
    cons x (ctx_join {at = at + 4} L g (rw a at h))

-- an entry of the question that was put
pub question_put : {q w w' : List ℕ} {at k a r : ℕ} (i : ℕ) (b : Binding) (t : ℕ) → Put4 w w' at k a r 0 → at + 4 ≤ t → k ≡ kind_of (binding_key b)
    → a ≡ name_of (binding_key b) → Den q w' t r (binding_type b) → EntryAt q w' t at (of_question i b)
unfolding key_of held
question_put {r = r} i b t p h x y d = record { ref = r; below = h; kind = p.w0 ∙ x; name = p.w1 ∙ y; ref_is = p.w2; den = d }

-- ## Entries that are put

pub kind_small : (k : Key) → kind_of k < 37
unfolding kind_of
kind_small (k_var x) = omega arith
kind_small (k_tvar a) = omega arith
kind_small (k_etvar a) = omega arith
kind_small (k_setvar a) = omega arith
kind_small (k_mark a) = omega arith

-- an entry that was put at p stays where words from p + 4 on change, and what it holds where those below t stay
pub entry_stays : {q v v' w w' : List ℕ} {t t' p h h' : ℕ} {n : program.Entry} {e : Entry} → PutEntry v v' p n → Keep (p + 4) h v' w' → Keep t h' w w'
    → t ≤ t' → p + 4 ≤ t' → AsEntry q w t n e → EntryAt q w' t' p e
entry_stays {p = p} {n = n} x y k l m z = record {
  ref = n.ty;
  below = m;
  kind = sym (y.below p (omega arith)) ∙ x.w0 ∙ ap kind_of (sym z.key_is);
  name = sym (y.below (p + 1) (omega arith)) ∙ x.w1 ∙ ap name_of (sym z.key_is);
  ref_is = sym (y.below (p + 2) (omega arith)) ∙ x.w2;
  den = den_frame k l z.den;
}
