-- The first entry of a kind and name in words is the definition's earliest: what find, has, break3's left and right are then.
use mathlib.Core.Path.{◌≡◌, refl, sym, ◌∙◌, ap, subst}
use mathlib.Core.Bool.{Bool, true, false, ◌&&◌}
use mathlib.Core.List.{List, [], ◌∷◌}
use mathlib.Core.Option.{some}
use Prim.Native.Nat.{ℕ, zero, suc, ◌+◌, ◌-◌, ◌*◌, ◌≤◌, ◌<◌}
use native.Mathlib.Omega.{arith}
use lib.Dec.{eqb, ltb}
use lib.ListN.{length, get_or}
use borrow.Author.Tests.{eq-eqb, eqb-true, ltb-true, ltb-false}
use Rattle.definition.specs.Syntax.{pick, TyVar, Entry, Ctx}
use Rattle.definition.specs.Contexts.{Key, key_of, kind_of, name_of, hit, held, find, left_of, right_of, has, before, k_etvar}
use Rattle.layout.specs.Denotes.{EntryAt, CtxAt, nil, cons, Run}
use Rattle.layout.specs.declared.Span.{Span}
use Rattle.contexts.specs.Search.{Hit, First, Missing, Found, Split, Looked, absent, holds, Before, Right}
use Rattle.std.specs.Prelude.{◌^◌, Some, None}

-- ## One entry against a key

-- two tests that do not both hold
pub not_both : (a b c d : ℕ) → (a ≡ b → c ≡ d → ⊥) → (eqb a b && eqb c d) ≡ false
not_both a b c d f = go (eqb a b) refl (eqb c d) refl
  where
    go : (x : Bool) → eqb a b ≡ x → (y : Bool) → eqb c d ≡ y → (x && y) ≡ false
    go false p y q = refl
    go true p false q = refl
    go true p true q = absurd (f (eqb-true a b p) (eqb-true c d q))

module _ {q w : List ℕ} {t at : ℕ} (k : Key) {e : Entry} (x : EntryAt q w t at e) where
  hit_no : (get_or w at 0 ≡ kind_of k → get_or w (at + 1) 0 ≡ name_of k → ⊥) → hit k e ≡ false
  unfolding hit
  hit_no f = not_both (kind_of (key_of e)) (kind_of k) (name_of (key_of e)) (name_of k) (λ p r. f (x.kind ∙ p) (x.name ∙ r))

  hit_yes : get_or w at 0 ≡ kind_of k → get_or w (at + 1) 0 ≡ name_of k → hit k e ≡ true
  unfolding hit
  hit_yes p r = rw (eq-eqb (kind_of (key_of e)) (kind_of k) (sym x.kind ∙ p)) (eq-eqb (name_of (key_of e)) (name_of k) (sym x.name ∙ r))

record AtHead (k : Key) (e : Entry) (Γ : Ctx) : Type 0 where
  find_is : find k (e ∷ Γ) ≡ some (held e)
  has_is : has k (e ∷ Γ) ≡ true
  left_is : left_of k (e ∷ Γ) ≡ []
  right_is : right_of k (e ∷ Γ) ≡ Γ

here : (k : Key) (e : Entry) (Γ : Ctx) → hit k e ≡ true → AtHead k e Γ
unfolding find has left_of right_of pick
here k e Γ h = record { find_is = rw h; has_is = rw h; left_is = rw h; right_is = rw h }

record Later (k : Key) (e : Entry) (Γ : Ctx) : Type 0 where
  find_is : find k (e ∷ Γ) ≡ find k Γ
  has_is : has k (e ∷ Γ) ≡ has k Γ
  left_is : left_of k (e ∷ Γ) ≡ e ∷ left_of k Γ
  right_is : right_of k (e ∷ Γ) ≡ right_of k Γ

later : (k : Key) (e : Entry) (Γ : Ctx) → hit k e ≡ false → Later k e Γ
unfolding find has left_of right_of pick
later k e Γ h = record { find_is = rw h; has_is = rw h; left_is = rw h; right_is = rw h }

nowhere : (k : Key) → Missing k []
unfolding find has left_of right_of
nowhere k = record { find_is = refl; has_is = refl; left_is = refl; right_is = refl }

-- ## The first entry, counted from the next one on

hit_move : {w : List ℕ} {at at' kind name : ℕ} (i i' : ℕ) → at + 4 * i ≡ at' + 4 * i' → Hit w at kind name i → Hit w at' kind name i'
hit_move i i' e h = record { kind_is = rw e at h.kind_is; name_is = rw e at h.name_is }

module _ {w : List ℕ} {at n kind name : ℕ} where
  next_first : (i : ℕ) → First w at (suc n) kind name (suc i) → First w (at + 4) n kind name i
  next_first i f = record {
    within = omega (arith, f.within);
    earlier = λ j l h. f.earlier (suc j) (omega arith) (hit_move j (suc j) (omega arith) h);
    hit = λ l. hit_move (suc i) i (omega arith) (f.hit (omega arith));
  }

  not_here : (i : ℕ) → First w at n kind name (suc i) → get_or w at 0 ≡ kind → get_or w (at + 1) 0 ≡ name → ⊥
  not_here i f p r =
      let e : at + 4 * 0 ≡ at = omega arith in
      f.earlier 0 (omega arith) (record { kind_is = rw e p; name_is = rw e r })

-- ## Find and break3

record Breaks (q w : List ℕ) (t at i : ℕ) (k : Key) (Γ : Ctx) : Type 0 where
  left : Run q w t at i (left_of k Γ)
  missing : i ≡ length Γ → Missing k Γ
  found : i < length Γ → Found q w t at (length Γ) i k Γ

module _ {q w : List ℕ} {t : ℕ} (k : Key) where
  none_of : {at : ℕ} (i : ℕ) → at ≤ t → i ≤ 0 → Breaks q w t at i k []
  none_of i h l = record {
    left = rw (nowhere k).left_is (record { ctx = nil; count = omega arith; below = omega arith });
    missing = λ e. nowhere k;
    found = λ e. absurd (omega arith);
  }

  at_once : {at : ℕ} {e : Entry} {Γ : Ctx} → at + 4 * length (e ∷ Γ) ≤ t → EntryAt q w t at e → CtxAt q w t (at + 4) Γ → hit k e ≡ true
      → Breaks q w t at 0 k (e ∷ Γ)
  at_once {at} {e} {Γ} b x g h =
      let is = here k e Γ h in
      let p : at + 4 * 0 + 2 ≡ at + 2 = omega arith in
      let r : at + 4 * (0 + 1) ≡ at + 4 = omega arith in
      let run : Run q w t (at + 4) (length (e ∷ Γ) - (0 + 1)) Γ = record { ctx = g; count = omega arith; below = omega arith } in
      record {
        left = rw is.left_is (record { ctx = nil; count = refl; below = omega arith });
        missing = λ z. absurd (omega arith);
        found = λ z. record {
          ty = held e;
          find_is = is.find_is;
          has_is = is.has_is;
          den = rw (p, x.ref_is) x.den;
          right = rw (r, is.right_is) run;
        };
      }

  further : {at : ℕ} (i : ℕ) {e : Entry} {Γ : Ctx} → at + 4 * length (e ∷ Γ) ≤ t → EntryAt q w t at e → hit k e ≡ false
      → Breaks q w t (at + 4) i k Γ → Breaks q w t at (suc i) k (e ∷ Γ)
  further {at} i {e} {Γ} b x h m =
      let is = later k e Γ h in
      let l = m.left in
      let run : Run q w t at (suc i) (e ∷ left_of k Γ) = record { ctx = cons x l.ctx; count = ap suc l.count; below = omega (arith, l.below) } in
      record {
        left = rw is.left_is run;
        missing = λ z. miss (m.missing (omega arith));
        found = λ z. find_on (m.found (omega arith));
      }
    where
      miss : Missing k Γ → Missing k (e ∷ Γ)
      miss y =
          let is = later k e Γ h in
          record {
            find_is = is.find_is ∙ y.find_is;
            has_is = is.has_is ∙ y.has_is;
            left_is = is.left_is ∙ ap (λ (Δ : Ctx). e ∷ Δ) y.left_is;
            right_is = is.right_is ∙ y.right_is;
          }

      find_on : Found q w t (at + 4) (length Γ) i k Γ → Found q w t at (length (e ∷ Γ)) (suc i) k (e ∷ Γ)
      find_on y =
          let is = later k e Γ h in
          let p : at + 4 * suc i + 2 ≡ at + 4 + 4 * i + 2 = omega arith in
          let r : at + 4 * (suc i + 1) ≡ at + 4 + 4 * (i + 1) = omega arith in
          let n : length (e ∷ Γ) - (suc i + 1) ≡ length Γ - (i + 1) = omega arith in
          record {
            ty = y.ty;
            find_is = is.find_is ∙ y.find_is;
            has_is = is.has_is ∙ y.has_is;
            den = rw p y.den;
            right = rw (r, n, is.right_is) y.right;
          }

  parts : {at : ℕ} (i : ℕ) {Γ : Ctx} → CtxAt q w t at Γ → at + 4 * length Γ ≤ t → First w at (length Γ) (kind_of k) (name_of k) i
      → Breaks q w t at i k Γ
  parts i nil b f = none_of i (omega arith) f.within
  parts {at} zero (cons x g) b f =
      let e : at + 4 * 0 ≡ at = omega arith in
      let h = f.hit (omega arith) in
      at_once b x g (hit_yes k x (rw e at h.kind_is) (rw e at h.name_is))
  parts (suc i) (cons x g) b f = further i b x (hit_no k x (not_here i f)) (parts i g (omega arith) (next_first i f))

-- what the search in words found is what the definition's find and break3 do
pub first_split : {w : List ℕ} {g : Span} {i : ℕ} (k : Key) → First w g.at g.n (kind_of k) (name_of k) i → Split w g k i
first_split {w} {g} {i} k f = record {
  within = f.within;
  left = λ u. (on u).left;
  missing = λ e u. (on u).missing (e ∙ u.count);
  found = λ l u. rw u.count ((on u).found (omega (arith, l, u.count)));
}
  where
    on : {q : List ℕ} {t : ℕ} {Γ : Ctx} → Run q w t g.at g.n Γ → Breaks q w t g.at i k Γ
    on u = parts k i u.ctx (omega (arith, u.below, u.count)) (rw (← u.count) f)

-- ## What follows

module _ {w : List ℕ} {g : Span} {k : Key} {i : ℕ} (s : Split w g k i) {q : List ℕ} {t : ℕ} {Γ : Ctx} (u : Run q w t g.at g.n Γ) where
  -- the key is there if the search stopped early
  pub split_has : ltb i g.n ≡ has k Γ
  split_has = go (ltb i g.n) refl
    where
      go : (x : Bool) → ltb i g.n ≡ x → x ≡ has k Γ
      go true p = sym (s.found (ltb-true i g.n p) u).has_is
      go false p = sym (s.missing (omega (arith, ltb-false i g.n p, s.within)) u).has_is

  -- what is right of the entry, and nothing right of the end
  pub split_right : CtxAt q w t (g.at + 4 * (i + 1)) (right_of k Γ) × (g.n - (i + 1) ≡ length (right_of k Γ))
  split_right = go (ltb i g.n) refl
    where
      go : (x : Bool) → ltb i g.n ≡ x → CtxAt q w t (g.at + 4 * (i + 1)) (right_of k Γ) × (g.n - (i + 1) ≡ length (right_of k Γ))
      go true p = let f = s.found (ltb-true i g.n p) u in (f.right.ctx, f.right.count)
      go false p =
          let e : i ≡ g.n = omega (arith, ltb-false i g.n p, s.within) in
          rw (s.missing e u).right_is (nil, omega arith)

module _ {w : List ℕ} {g : Span} {a b : TyVar} {i : ℕ} (s : Split w g (k_etvar a) i) where
  pub before_none : i ≡ g.n → Before w g a b false
  unfolding before
  before_none e = record { is = λ u. rw (s.missing e u).has_is }

  pub before_some : {j : ℕ} → (i ≡ g.n → ⊥) → Split w (record { at = g.at; n = i }) (k_etvar b) j → Before w g a b (ltb j i)
  unfolding before
  before_some e z = record { is = λ u. rw (s.found (omega (arith, s.within)) u).has_is (split_has z (s.left u)) }

module _ {w : List ℕ} {g : Span} {k : Key} {i : ℕ} (s : Split w g k i) where
  pub right_none : i ≡ g.n → Right w g k (record { at = g.at; n = 0 })
  right_none e = record {
    less = omega arith;
    within = omega arith;
    run = λ u. rw (s.missing e u).right_is (record { ctx = nil; count = refl; below = omega (arith, u.below) });
  }

  -- what lookup answers
  pub looked_none : i ≡ g.n → Looked w g k None
  looked_none e = absent (subst (Split w g k) e s)

  pub looked_some : {r : ℕ} → (i ≡ g.n → ⊥) → r ≡ get_or w (g.at + 4 * i + 2) 0 → r < 2 ^ 32 → Looked w g k (Some r)
  looked_some e x l = rw x (holds {i = i} (omega (arith, s.within)) s (rw x at l))
