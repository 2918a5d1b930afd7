-- What is done with names and contexts keeps them alike.
use mathlib.Core.Path.{◌≡◌, refl, sym, ap, ap₂}
use Prim.Native.Nat.{ℕ, suc, ◌+◌, ◌<◌}
use native.Mathlib.Omega.{arith}
use mathlib.Core.Bool.{Bool, true, false, ◌&&◌, ◌||◌}
use mathlib.Core.List.{◌++◌}
use lib.ListN.{length}
use lib.Dec.{T, eqb, eqb→eq, eqb_refl}
use Rattle.laws.proofs.Steps.{is_true}
use Rattle.definition.specs.Syntax.{TmVar, TyVar, Binding, Entry, Ctx}
use Rattle.definition.specs.Contexts.{Key, k_var, k_tvar, k_etvar, k_setvar, k_mark, binding_key, key_of, kind_of, name_of, hit, binding_type, held, find, left_of, right_of, has, ◌▹◌, replace, is_solved, solved, solved_and_right, before}
use Rattle.definition.specs.Types.{same_name}
use Rattle.alike.specs.Alike.{Pairing, OneToOne, Written, ReplyName, written, fresh}
use Rattle.alike.proofs.Related.{BindingR, VarR, NameR, TyR, int_r, EntryR, var_bnd_r, tvar_bnd_r, etvar_bnd_r, setvar_bnd_r, mark_r, CtxR, nil_r, cons_r, OptionR, none_r, some_r, pick_r}

-- ## Names: equal on one side where equal on the other

-- two tests that hold together are the same
iff : (b c : Bool) → (T b → T c) → (T c → T b) → b ≡ c
iff true c f g = sym (is_true c (f tt))
iff false true f g = absurd (g tt)
iff false false f g = refl

same_test : {a a' b b' : ℕ} → (a ≡ b → a' ≡ b') → (a' ≡ b' → a ≡ b) → eqb a b ≡ eqb a' b'
same_test {a} {a'} {b} {b'} f g =
    iff (eqb a b) (eqb a' b') (λ t. rw (f (eqb→eq a b t)) (eqb_refl b')) (λ t. rw (g (eqb→eq a' b' t)) (eqb_refl b))

written_same : {R : ℕ → ℕ → Type 0} {a a' b b' : ℕ} → OneToOne R → Written R a a' → Written R b b' → eqb a b ≡ eqb a' b'
written_same {R} {a} {a'} {b} {b'} o p q =
    same_test
    (λ (e : a ≡ b). o.right (rw e at p.paired) q.paired)
    (λ (e : a' ≡ b'). o.left (rw e at p.paired) q.paired)

-- a fresh name is no written one
not_fresh : {A : Type 0} {a : ℕ} (k : ℕ) → a < 1_000_000 → a ≡ 1_000_000 + k → A
not_fresh k h e = absurd (omega arith)

named_same : {R : ℕ → ℕ → Type 0} {a a' b b' : ℕ} → OneToOne R → ReplyName R a a' → ReplyName R b b' → eqb a b ≡ eqb a' b'
named_same o (written p) (written q) = written_same o p q
named_same o (written p) (fresh k) = same_test (not_fresh k p.low) (not_fresh k p.low')
named_same o (fresh k) (written q) = same_test (λ e. not_fresh k q.low (sym e)) (λ e. not_fresh k q.low' (sym e))
named_same o (fresh k) (fresh i) = refl

-- ## Keys

-- how a name is paired, by whether it is a variable's
pub data Sort (P : Pairing) : Bool → ℕ → ℕ → Type 0 where
  of_variable : {x x' : ℕ} → Written P.variables x x' → Sort P true x x'
  of_type : {a a' : ℕ} → ReplyName P.types a a' → Sort P false a a'

sort_same : {P : Pairing} {b : Bool} {a a' c c' : ℕ} → Sort P b a a' → Sort P b c c' → eqb a c ≡ eqb a' c'
sort_same {P} (of_variable p) (of_variable q) = written_same P.variables_pair p q
sort_same {P} (of_type p) (of_type q) = named_same P.types_pair p q

pub record KeyR (P : Pairing) (k k' : Key) : Type 0 where
  pub kinds : kind_of k ≡ kind_of k'
  pub names : Sort P (eqb (kind_of k) 32) (name_of k) (name_of k')

module _ {P : Pairing} where
  pub same_name_r : {a a' b b' : TyVar} → NameR P a a' → NameR P b b' → same_name a b ≡ same_name a' b'
  unfolding same_name
  same_name_r p q = named_same P.types_pair p.numbers q.numbers

  pub k_var_r : {x x' : TmVar} → VarR P x x' → KeyR P (k_var x) (k_var x')
  unfolding kind_of name_of
  k_var_r p = record { kinds = refl; names = of_variable p.numbers }

  pub k_tvar_r : {a a' : TyVar} → NameR P a a' → KeyR P (k_tvar a) (k_tvar a')
  unfolding kind_of name_of
  k_tvar_r p = record { kinds = refl; names = of_type p.numbers }

  pub k_etvar_r : {a a' : TyVar} → NameR P a a' → KeyR P (k_etvar a) (k_etvar a')
  unfolding kind_of name_of
  k_etvar_r p = record { kinds = refl; names = of_type p.numbers }

  pub k_setvar_r : {a a' : TyVar} → NameR P a a' → KeyR P (k_setvar a) (k_setvar a')
  unfolding kind_of name_of
  k_setvar_r p = record { kinds = refl; names = of_type p.numbers }

  pub k_mark_r : {a a' : TyVar} → NameR P a a' → KeyR P (k_mark a) (k_mark a')
  unfolding kind_of name_of
  k_mark_r p = record { kinds = refl; names = of_type p.numbers }

  binding_key_r : {b b' : Binding} → BindingR P b b' → KeyR P (binding_key b) (binding_key b')
  unfolding binding_key
  binding_key_r (var_bnd_r p t) = k_var_r p
  binding_key_r (tvar_bnd_r p) = k_tvar_r p
  binding_key_r (etvar_bnd_r p) = k_etvar_r p
  binding_key_r (setvar_bnd_r p t) = k_setvar_r p
  binding_key_r (mark_r p) = k_mark_r p

  key_of_r : {e e' : Entry} → EntryR P e e' → KeyR P (key_of e) (key_of e')
  unfolding key_of
  key_of_r e = binding_key_r e.bindings

  binding_type_r : {b b' : Binding} → BindingR P b b' → TyR P (binding_type b) (binding_type b')
  unfolding binding_type
  binding_type_r (var_bnd_r p t) = t
  binding_type_r (tvar_bnd_r p) = int_r
  binding_type_r (etvar_bnd_r p) = int_r
  binding_type_r (setvar_bnd_r p t) = t
  binding_type_r (mark_r p) = int_r

  held_r : {e e' : Entry} → EntryR P e e' → TyR P (held e) (held e')
  unfolding held
  held_r e = binding_type_r e.bindings

  -- names are compared where the kinds are the same, and then both are variables' or both are types'
  hit_r : {k k' : Key} {e e' : Entry} → KeyR P k k' → EntryR P e e' → hit k e ≡ hit k' e'
  unfolding hit
  hit_r {k} {k'} {e} {e'} p q = rw (← p.kinds, ← (key_of_r q).kinds) (by (eqb (kind_of (key_of e)) (kind_of k)) refl)
    where
      by : (b : Bool) → eqb (kind_of (key_of e)) (kind_of k) ≡ b
          → (b && eqb (name_of (key_of e)) (name_of k)) ≡ (b && eqb (name_of (key_of e')) (name_of k'))
      by false h = refl
      by true h =
          let kinds : kind_of (key_of e) ≡ kind_of k = eqb→eq _ _ (rw h tt) in
          sort_same (rw kinds at (key_of_r q).names) p.names

  -- ## Searches

  pub find_r : {k k' : Key} {Γ Γ' : Ctx} → KeyR P k k' → CtxR P Γ Γ' → OptionR (TyR P) (find k Γ) (find k' Γ')
  unfolding find
  find_r p nil_r = none_r
  find_r p (cons_r q r) = pick_r (OptionR (TyR P)) (hit_r p q) (some_r (held_r q)) (find_r p r)

  left_of_r : {k k' : Key} {Γ Γ' : Ctx} → KeyR P k k' → CtxR P Γ Γ' → CtxR P (left_of k Γ) (left_of k' Γ')
  unfolding left_of
  left_of_r p nil_r = nil_r
  left_of_r p (cons_r q r) = pick_r (CtxR P) (hit_r p q) nil_r (cons_r q (left_of_r p r))

  pub right_of_r : {k k' : Key} {Γ Γ' : Ctx} → KeyR P k k' → CtxR P Γ Γ' → CtxR P (right_of k Γ) (right_of k' Γ')
  unfolding right_of
  right_of_r p nil_r = nil_r
  right_of_r p (cons_r q r) = pick_r (CtxR P) (hit_r p q) r (right_of_r p r)

  has_r : {k k' : Key} {Γ Γ' : Ctx} → KeyR P k k' → CtxR P Γ Γ' → has k Γ ≡ has k' Γ'
  unfolding has
  has_r p nil_r = refl
  has_r p (cons_r q r) = ap₂ ◌||◌ (hit_r p q) (has_r p r)

  pub before_r : {Γ Γ' : Ctx} {a a' b b' : TyVar} → CtxR P Γ Γ' → NameR P a a' → NameR P b b' → before Γ a b ≡ before Γ' a' b'
  unfolding before
  before_r c a b = ap₂ ◌&&◌ (has_r (k_etvar_r a) c) (has_r (k_etvar_r b) (left_of_r (k_etvar_r a) c))

  -- ## New contexts

  join_r : {Γ Γ' Δ Δ' : Ctx} → CtxR P Γ Γ' → CtxR P Δ Δ' → CtxR P (Γ ++ Δ) (Γ' ++ Δ')
  join_r nil_r q = q
  join_r (cons_r e p) q = cons_r e (join_r p q)

  pub push_r : {Γ Γ' : Ctx} {e e' : Entry} → CtxR P Γ Γ' → EntryR P e e' → CtxR P (Γ ▹ e) (Γ' ▹ e')
  unfolding ◌▹◌
  push_r c e = join_r c (cons_r e nil_r)

  pub replace_r : {a a' : TyVar} {Γ Γ' Θ Θ' : Ctx} → NameR P a a' → CtxR P Θ Θ' → CtxR P Γ Γ' → CtxR P (replace a Θ Γ) (replace a' Θ' Γ')
  unfolding replace
  replace_r a d c = join_r (left_of_r (k_etvar_r a) c) (join_r d (right_of_r (k_etvar_r a) c))

  is_solved_r : {e e' : Entry} → EntryR P e e' → is_solved e ≡ is_solved e'
  unfolding is_solved
  is_solved_r e = ap (λ k. eqb k 35) (key_of_r e).kinds

  solved_r : {Γ Γ' : Ctx} → CtxR P Γ Γ' → CtxR P (solved Γ) (solved Γ')
  unfolding solved
  solved_r nil_r = nil_r
  solved_r (cons_r e c) = pick_r (CtxR P) (is_solved_r e) (cons_r e (solved_r c)) (solved_r c)

  pub solved_and_right_r : {k k' : Key} {Γ Γ' : Ctx} → KeyR P k k' → CtxR P Γ Γ' → CtxR P (solved_and_right k Γ) (solved_and_right k' Γ')
  unfolding solved_and_right
  solved_and_right_r k c = join_r (solved_r (left_of_r k c)) (right_of_r k c)

  pub length_r : {Γ Γ' : Ctx} → CtxR P Γ Γ' → length Γ ≡ length Γ'
  length_r nil_r = refl
  length_r (cons_r e c) = ap suc (length_r c)
