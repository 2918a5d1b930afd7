-- The steps between judgements: strict mode's parameter, types with the context applied, a Forall's instance.
use mathlib.Core.Path.{◌≡◌, refl, sym, ◌∙◌}
use mathlib.Core.Bool.{Bool, true, false, not}
use mathlib.Core.List.{List, []}
use Prim.Native.Nat.{ℕ, ◌+◌, ◌≤◌}
use native.Mathlib.Nat.{le_refl}
use native.Mathlib.Omega.{arith}
use Rattle.std.specs.Prelude.{Result, Ok, Err}
use Rattle.std.proofs.lemmas.Bool.{not-true, not-false}
use Rattle.definition.specs.Syntax.{TyVar, Ty, int, bool, var, etvar, arrow, forall, Ctx, type_application_error, parameter_mismatch}
use Rattle.definition.specs.Run.{Out, done, M, and_then, give, refuse, ◌>>=◌}
use Rattle.definition.specs.Types.{apply, subst}
use Rattle.definition.specs.Rules.{ty_code, on, as_forall, same_ty, parameter, branch, instantiate, ◌or_else◌}
use Rattle.definition.specs.Reply.{error_code, error_at}
use Rattle.laws.proofs.Letters.{compares}
use Rattle.laws.proofs.Steps.{pick_true, pick_false, bind_done, bind_stop}
use Rattle.layout.specs.Words.{Keep}
use Rattle.layout.specs.Places.{size}
use Rattle.layout.specs.Denotes.{Den}
use Rattle.layout.specs.Room.{Room}
use Rattle.layout.specs.declared.Span.{Span}
use Rattle.layout.specs.declared.State.{State}
use Rattle.layout.specs.declared.TyVar as declared
use Rattle.layout.specs.declared.Made.{Made}
use Rattle.layout.specs.declared.Spent as layout
use Rattle.layout.proofs.Words.{keep_less}
use Rattle.layout.proofs.Denotes.{den_frame, run_frame}
use Rattle.types.specs.Reading.{Held, HeldAs, HeldNamed, Tagged, Named, BodyOf}
use Rattle.types.proofs.Held.{room_held, held_as, held_named, body_held}
use Rattle.rules.proofs.TypeForms.{IsForall, is_forall}
use Rattle.walks.specs.Letters.{letters_at, Comparing, Same}
use Rattle.substitution.specs.Passing.{Passed, Makes}
use Rattle.substitution.specs.Calls.{SubstPre, Substed, ApplyPre, Applied}
use Rattle.substitution.proofs.Passing as sub
use Rattle.substitution.proofs.Paid.{apply_pays}
use Rattle.judging.specs.declared.Here.{Here}
use Rattle.judging.specs.declared.Shown.TheVariants.{OneType, TwoTypes}
use Rattle.judging.specs.declared.Stop.{Stop}
use Rattle.judging.specs.declared.Stop.TheVariants.{Fail, Spent}
use Rattle.judging.specs.declared.TypeError.TheVariants as error
use Rattle.judging.specs.Names.{error_of}
use Rattle.judging.specs.Ending.{Failed, shown_one, shown_two}
use Rattle.judging.proofs.Chain.{room_within}
use Rattle.rules.specs.Going.{Two, TwoIn, GoesOrEnds, goes, fails, stops, Compared, AppliedBoth, Instantiated}

-- what the definition says in other words
says : {X Y : Type 0} {q w w' : List ℕ} {s : State} {st : Y → State} {D : X → Y → Type 0} {z : Result Y Stop} {O O' : Out X} → O ≡ O'
    → GoesOrEnds q w w' s st D z O' → GoesOrEnds q w w' s st D z O
says e p = rw e p

-- past the top stands room for the letters of each Forall in what application gave: it has paid for them
letters_room : {q w w₁ : List ℕ} {s s₁ : State} {r k : ℕ} (Γ : Ctx) (P : Ty) → Room q w s k
    → (o : sub.Reached q w w₁ s s₁ r (apply Γ P s.left s.fresh)) → s₁.top + size o.type ≤ s₁.low
letters_room {s = s} Γ P m o = omega (arith, apply_pays Γ P s.left s.fresh o.is, o.passed.built, o.passed.low, m.fits)

-- ## The context applied to one of the two

module _ {q w : List ℕ} {s : State} {g : Span} {a b : ℕ} (pre : TwoIn q w s g a b) where
  module _ {w₁ : List ℕ} {z : Result Made layout.Spent} {made : Made} where
    -- the second, after the first
    pub apply_then : Applied q w w₁ s g a z → z ≡ Ok made → ApplyPre q w₁ made.st g b
    apply_then ap e =
        let o = sub.reached (ap.makes pre.Γ pre.run _ pre.two.left) e in
        let p = o.passed in
        record { spare = _; room = sub.room_on p pre.two.room; ctx = pre.Γ; run = run_frame p.keep p.up pre.run; type = _; den = sub.den_on p pre.two.right }

    -- ## Strict mode's parameter

    pub comparing : Applied q w w₁ s g b z → z ≡ Ok made → Comparing q w₁ made.st.top 0 a made.ty
    comparing ap e =
        let o = sub.reached (ap.makes pre.Γ pre.run _ pre.two.right) e in
        let p = o.passed in
        let m = sub.room_on p pre.two.room in
        record {
          one = room_held m (sub.den_on p pre.two.left);
          two = record { base = m.base; fits = omega (arith, m.fits, m.low); cap = m.cap; type = o.type; den = o.den };
          room = omega (arith, letters_room _ _ pre.two.room o, m.low);
        }

-- no fresh name was taken
no_fresh : {X : Type 0} (f : M X) (l n : ℕ) {n' l' : ℕ} {x : X} → n ≡ n' → f l n ≡ done x l' n → f l n' ≡ done x l' n'
no_fresh f l n e h = rw e at h

-- paid or not, it went on
went : {w w' : List ℕ} {s s' : State} {n : ℕ} → Passed w w' s s' n → Passed w w' s s' 0
went p = record { keep = p.keep; up = p.up; low = p.low; fresh = p.fresh; paid = omega (arith, p.paid); built = p.built }

-- what is known once the context is applied and both types are compared: the comparison wrote past the top alone
record OnceCompared (q w w₂ : List ℕ) (s s₁ : State) (a r : ℕ) (b : Bool) (Γ : Ctx) (A P : Ty) : Type 0 where
  applied : Ty
  is : apply Γ P s.left s.fresh ≡ done applied s₁.left s.fresh
  passed : Passed w w₂ s s₁ 1
  left : Den q w₂ s₁.top a A
  right : Den q w₂ s₁.top r applied
  same : b ≡ same_ty [] A applied

once_compared : {q w w₁ w₂ : List ℕ} {s s₁ : State} {a r k : ℕ} {b : Bool} {A : Ty} (Γ : Ctx) (P : Ty) → Room q w s k → Den q w s.top a A
    → sub.Reached q w w₁ s s₁ r (apply Γ P s.left s.fresh) → Same q w₁ w₂ s₁.top 0 a r b → OnceCompared q w w₂ s s₁ a r b Γ A P
unfolding letters_at
once_compared {w₁ = w₁} {w₂ = w₂} {s₁ = s₁} Γ P m d o same =
    let d₁ = sub.den_on o.passed d in
    let kept : Keep s₁.top s₁.low w₁ w₂ = keep_less (omega arith) (omega (arith, letters_room Γ P m o)) (same.keep o.type o.den) in
    record {
      applied = o.type;
      is = o.is;
      passed = sub.then o.passed (sub.past_top kept);
      left = den_frame kept (le_refl _) d₁;
      right = den_frame kept (le_refl _) o.den;
      same = same.is _ o.type d₁ o.den;
    }

module _ {m : Here} {q w : List ℕ} {s : State} {g : Span} {a p : ℕ} where
  pub not_compared : not m.manner.compares_parameter ≡ true → Compared m q w w s g a p (Ok s)
  unfolding parameter give
  not_compared e = record { passes = λ Γ A P n d f. rw (not-true _ e) (goes (sub.here w s) tt) }

  module _ (v : not m.manner.compares_parameter ≡ false) {w₁ : List ℕ} {z : Result Made layout.Spent} (ap : Applied q w w₁ s g p z) where
    pub parameter_spent : {x : layout.Spent} → z ≡ Err x → Compared m q w w₁ s g a p (Err Spent)
    unfolding parameter
    parameter_spent h = record {
      passes = λ Γ A P n d f.
          let o = sub.ended (ap.makes Γ n P f) h in
          says (rw (not-false _ v) (bind_stop (apply Γ P) _ _ _ o.is)) (stops o.keep);
    }

    module _ {made : Made} {k : ℕ} {w₂ : List ℕ} {b : Bool} (h : z ≡ Ok made) (same : Same q w₁ w₂ made.st.top 0 a made.ty b) (room : Room q w s k) where
      pub parameter_same : b ≡ true → Compared m q w w₂ s g a p (Ok made.st)
      unfolding give
      parameter_same t = record {
        passes = λ Γ A P n d f.
            let o = once_compared Γ P room d (sub.reached (ap.makes Γ n P f) h) same in
            let x : same_ty [] A o.applied ≡ true = sym o.same ∙ t in
            says (rw (not-false _ v) (compares Γ A P _ _ o.is ∙ rw (pick_true (give (tt {0})) (refuse (parameter_mismatch A o.applied)) x) refl)) (goes (went o.passed) tt);
      }

      pub parameter_other : b ≡ false → Compared m q w w₂ s g a p (Err (Fail (record { st = made.st; code = error_code (error_of error.ParameterMismatch); name = 0; shown = TwoTypes a made.ty; charge = 0 })))
      unfolding error_at refuse
      parameter_other t = record {
        passes = λ Γ A P n d f.
            let o = once_compared Γ P room d (sub.reached (ap.makes Γ n P f) h) same in
            let rm = sub.room_on o.passed room in
            let x : same_ty [] A o.applied ≡ false = sym o.same ∙ t in
            let y : Failed q w₂ (record { st = made.st; code = error_code (error_of error.ParameterMismatch); name = 0; shown = TwoTypes a made.ty; charge = 0 }) (parameter_mismatch A o.applied) made.st.left =
            record { base = rm.base; within = room_within rm; code = refl; name = refl; shown = shown_two o.left o.right; left = refl } in
            says (rw (not-false _ v) (compares Γ A P _ _ o.is ∙ rw (pick_false (give (tt {0})) (refuse (parameter_mismatch A o.applied)) x) refl)) (fails o.passed.keep y);
      }

-- ## Two types with the context applied, or as they are

module _ {q w : List ℕ} {s : State} {g : Span} {a b : ℕ} where
  pub as_they_are : AppliedBoth false q w w s g a b (Ok (record { st = s; a = a; b = b }))
  unfolding branch ◌>>=◌ and_then give
  as_they_are = record { passes = λ Γ A B n d f. goes (sub.here w s) (d, f) }

  module _ {w₁ : List ℕ} {z : Result Made layout.Spent} (ap : Applied q w w₁ s g a z) where
    pub first_spent : {x : layout.Spent} → z ≡ Err x → AppliedBoth true q w w₁ s g a b (Err Spent)
    unfolding branch
    first_spent h = record {
      passes = λ Γ A B n d f. let o = sub.ended (ap.makes Γ n A d) h in says (bind_stop (apply Γ A) _ _ _ o.is) (stops o.keep);
    }

    module _ {made : Made} (h : z ≡ Ok made) {w₂ : List ℕ} {z₂ : Result Made layout.Spent} (ap₂ : Applied q w₁ w₂ made.st g b z₂) where
      pub second_spent : {x : layout.Spent} → z₂ ≡ Err x → AppliedBoth true q w w₂ s g a b (Err Spent)
      unfolding branch
      second_spent h₂ = record {
        passes = λ Γ A B n d f.
            let o = sub.reached (ap.makes Γ n A d) h in
            let p = o.passed in
            let u = sub.ended (ap₂.makes Γ (run_frame p.keep p.up n) B (sub.den_on p f)) h₂ in
            says (bind_done (apply Γ A) _ _ _ o.is ∙ bind_stop (apply Γ B) _ _ _ (rw p.fresh at u.is)) (stops (sub.keep_on p u.keep));
      }

      pub both_done : {made₂ : Made} → z₂ ≡ Ok made₂ → AppliedBoth true q w w₂ s g a b (Ok (record { st = made₂.st; a = made.ty; b = made₂.ty }))
      unfolding branch give
      both_done h₂ = record {
        passes = λ Γ A B n d f.
            let o = sub.reached (ap.makes Γ n A d) h in
            let p = o.passed in
            let u = sub.reached (ap₂.makes Γ (run_frame p.keep p.up n) B (sub.den_on p f)) h₂ in
            says (bind_done (apply Γ A) _ _ _ o.is ∙ bind_done (apply Γ B) _ _ _ (no_fresh (apply Γ B) _ _ p.fresh u.is))
            (goes (went (sub.then p u.passed)) (sub.den_on u.passed o.den, u.den));
      }

-- ## The instance of a Forall

instance_is : (B : Ty) (a : TyVar) (A : Ty) → instantiate B (forall a A) ≡ subst a B A
unfolding instantiate on as_forall ◌or_else◌
instance_is B a A = refl

no_instance : (B A : Ty) → (ty_code A ≡ 6 → ⊥) → instantiate B A ≡ refuse (type_application_error A)
unfolding instantiate ty_code on as_forall ◌or_else◌
no_instance B int h = refl
no_instance B bool h = refl
no_instance B (var a) h = refl
no_instance B (etvar a) h = refl
no_instance B (arrow A C) h = refl
no_instance B (forall a A) h = absurd (h refl)

module _ {q w : List ℕ} {s : State} {r by : ℕ} (pre : Two q w s r by) where
  pub type_held : Held q w s.top r
  type_held = room_held pre.room pre.left

  module _ {k : ℕ} (c : Tagged q w s.top r k) where
    pub not_instantiated : (k ≡ 6 → ⊥) → Instantiated q w w s r by (Err (Fail (record { st = s; code = error_code (error_of error.TypeApplicationError); name = 0; shown = OneType r; charge = 0 })))
    unfolding error_at refuse
    not_instantiated h = record {
      passes = λ A B d f.
          let y : Failed q w (record { st = s; code = error_code (error_of error.TypeApplicationError); name = 0; shown = OneType r; charge = 0 }) (type_application_error A) s.left =
          record { base = pre.room.base; within = room_within pre.room; code = refl; name = refl; shown = shown_one d; left = refl } in
          says (rw (no_instance B A (λ e. h (c.is A d ∙ e))) refl) (fails (sub.here w s).keep y);
    }

    module _ (six : k ≡ 6) where
      pub forall_as : HeldAs q w s.top r 6
      forall_as = held_as type_held c 6 six

      pub forall_named : HeldNamed q w s.top r
      forall_named = held_named type_held c (omega arith) (λ e. omega arith)

      module _ {n : declared.TyVar} {u : ℕ} (nm : Named q w s.top r n) (bd : BodyOf q w s.top r u) where
        pub subst_pre : SubstPre q w s by u
        subst_pre = record { spare = _; room = pre.room; new = pre.B; by = pre.right; type = _; den = (body_held forall_as bd).den }

        module _ {w₁ : List ℕ} {z : Result Made layout.Spent} (sb : Substed q w w₁ s n by u z) where
          -- the substitution is the definition's
          makes : (A B : Ty) → Den q w s.top r A → Den q w s.top by B → Makes q w w₁ s z (instantiate B A s.left s.fresh)
          makes A B d f = go (is_forall A (sym (c.is A d) ∙ six)) d
            where
              go : IsForall A → Den q w s.top r A → Makes q w w₁ s z (instantiate B A s.left s.fresh)
              go i d =
                  let e : Den q w s.top r (forall i.a i.A) = rw i.is at d in
                  rw (i.is, instance_is, ← nm.of_forall i.a i.A e) (sb.makes B f i.A (bd.is i.a i.A e).den)

          pub instance_spent : {x : layout.Spent} → z ≡ Err x → Instantiated q w w₁ s r by (Err Spent)
          instance_spent h = record { passes = λ A B d f. let o = sub.ended (makes A B d f) h in says o.is (stops o.keep) }

          pub instance_done : {made : Made} → z ≡ Ok made → Instantiated q w w₁ s r by (Ok made)
          instance_done h = record { passes = λ A B d f. let o = sub.reached (makes A B d f) h in says o.is (goes (went o.passed) o.den) }
