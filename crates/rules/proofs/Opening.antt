-- What opening a Forall builds.
use mathlib.Core.Path.{◌≡◌, refl, sym, ◌∙◌, ap}
use mathlib.Core.List.{List, [], ◌∷◌}
use Prim.Native.Nat.{ℕ, ◌+◌, ◌*◌, ◌≤◌}
use native.Mathlib.Nat.{le_refl}
use native.Mathlib.Omega.{arith}
use Rattle.std.specs.Prelude.{Result, Ok, Err}
use Rattle.definition.specs.Syntax as syntax
use Rattle.definition.specs.Syntax.{Ty, etvar, forall, Ctx, on_l, on_r}
use Rattle.definition.specs.Run.{Out, done, stop}
use Rattle.definition.specs.Types.{subst}
use Rattle.layout.specs.Sizes.{INT}
use Rattle.layout.specs.States.{raised}
use Rattle.layout.specs.Words.{Keep}
use Rattle.layout.specs.Denotes.{Den, Run}
use Rattle.layout.specs.Room.{Room}
use Rattle.layout.specs.declared.Entry.{Entry}
use Rattle.layout.specs.declared.Key.{Key}
use Rattle.layout.specs.declared.Key.TheVariants.{TVar, ETVar, Mark}
use Rattle.layout.specs.declared.Made.{Made}
use Rattle.layout.specs.declared.Spent.{Spent}
use Rattle.layout.specs.declared.Span.{Span}
use Rattle.layout.specs.declared.State.{State}
use Rattle.layout.specs.declared.TyVar.{TyVar}
use Rattle.layout.proofs.Words.{keep_less, keep_trans}
use Rattle.layout.proofs.Denotes.{den_frame, run_frame}
use Rattle.types.specs.Reading.{HeldNamed, Named, BodyOf}
use Rattle.types.specs.Making.{PutETVar}
use Rattle.types.proofs.Reading.{forall_held}
use Rattle.contexts.specs.Build.{Space, SmallEntries, Pushed}
use Rattle.contexts.specs.declared.Opened.{Opened}
use Rattle.contexts.proofs.Build.{small_one, small_two, push_one, push_two}
use Rattle.substitution.specs.Calls.{SubstPre, Substed}
use Rattle.substitution.specs.Passing as subs
use Rattle.substitution.proofs.Passing.{reached, ended, room_on as subst-room}
use Rattle.judging.specs.Asking.{EntryFrom}
use Rattle.judging.specs.declared.Here.{Here}
use Rattle.judging.proofs.Chain.{room_on}
use Rattle.judging.proofs.Entries.{entry_small, as_tvar, as_unsolved, as_mark}
use Rattle.rules.specs.declared.Body.{Body}
use Rattle.rules.specs.Built.{Built}
use Rattle.rules.specs.Opening.{ForallPre, Opens, Instances, opened, spent, OpensOn}
use Rattle.rules.proofs.Standing.{named_code, room_space}

module _ {q w : List ℕ} {s : State} {g : Span} {r : ℕ} (pre : ForallPre q w s g r) where
  pub forall_named : HeldNamed q w s.top r
  forall_named = named_code pre.held (omega arith) (λ e. omega arith)

  module _ {x : TyVar} {b : ℕ} (nm : Named q w s.top r x) (bd : BodyOf q w s.top r b) where
    -- ## On the right

    pub right_space : {h : Here} {n : Entry} → EntryFrom h (TVar x) INT n → Space w s g 1 × SmallEntries (n ∷ [])
    right_space en = (room_space pre.room g 1 pre.run (omega arith), small_one (entry_small en (omega arith)))

    pub opens_right : {h : Here} {n : Entry} → EntryFrom h (TVar x) INT n → {w₁ : List ℕ} {o : Opened} → Pushed w w₁ s g (n ∷ []) o
        → OpensOn h q w w₁ s g r on_r (Ok (record { st = o.st; g = o.g; b = x; ty = b }))
    opens_right {h} en {w₁} {o} p =
        let on = p.grown.past in
        let kp : Keep s.top s.low w w₁ = keep_less (le_refl _) (omega (arith, pre.room.fits)) p.grown.keep in
        let up : s.top ≤ o.st.top = omega (arith, on.top) in
        let bt : Built w w₁ s o.st (4 * g.n + 10) =
        record { keep = kp; up = up; low = on.low; less = omega (arith, on.left); built = omega (arith, on.left, on.top) } in
        record {
          opens = λ Γ v T run d.
              let f = nm.of_forall v T d in
              let is : done T s.left s.fresh ≡ done T o.st.left s.fresh = ap (λ (n : ℕ). done T n s.fresh) (sym on.left) in
              rw is
              (opened bt
              (record { name = f; run = rw f at (push_one p run (as_tvar en pre.room.base)); den = den_frame kp up (bd.is v T d).den; fresh = on.fresh }));
        }

    -- ## On the left

    module _ {w₁ : List ℕ} {u : ℕ} (put : PutETVar w w₁ s.top x u) where
      keep₁ : Keep s.top s.low w w₁
      keep₁ = keep_less (le_refl _) (omega (arith, pre.room.fits)) put.keep

      room₁ : Room q w₁ (raised s 2) (18 + 28 * g.n)
      room₁ = room_on (raised s 2) (18 + 28 * g.n) pre.room keep₁ (omega arith) (le_refl _) (omega (arith, pre.room.fits)) pre.room.names

      den₁ : {v : syntax.TyVar} {T : Ty} → Den q w s.top r (forall v T) → Den q w₁ (s.top + 2) b T
      den₁ d = den_frame keep₁ (omega arith) (bd.is _ _ d).den

      pub subst_pre : {p : State} → p ≡ raised s 2 → SubstPre q w₁ p u b
      subst_pre ep = rw ep (record { spare = _; room = room₁; new = _; by = put.den q; type = _; den = den₁ (forall_held pre.held).den })

      module _ {w₂ : List ℕ} {z : Result Made Spent} {p : State} (ep : p ≡ raised s 2) (call : Substed q w₁ w₂ p x u b z) where
        substed : Substed q w₁ w₂ (raised s 2) x u b z
        substed = rw ep at call

        makes : {v : syntax.TyVar} {T : Ty} → Den q w s.top r (forall v T) → subs.Makes q w₁ w₂ (raised s 2) z (subst v (etvar v) T s.left s.fresh)
        makes {v} {T} d = rw (nm.of_forall v T d) at (substed.makes _ (put.den q) T (den₁ d))

        pub left_spent : {h : Here} {y : Spent} → z ≡ Err y → {y₂ : Spent} → OpensOn h q w w₂ s g r on_l (Err y₂)
        left_spent e = record {
          opens = λ Γ v T run d.
              let n = ended (makes d) e in
              rw n.is (spent (keep_trans keep₁ (keep_less (omega arith) (le_refl _) n.keep)));
        }

        module _ {made : Made} (e : z ≡ Ok made) where
          abbrev s₂ : State
          s₂ = made.st

          -- by any type that the Forall may have
          passed : subs.Passed w₁ w₂ (raised s 2) s₂ 1
          passed = (reached (makes (forall_held pre.held).den) e).passed

          room₂ : Room q w₂ s₂ (18 + 28 * g.n + 28 * 1)
          room₂ = subst-room passed room₁

          keep₂ : Keep s.top s.low w w₂
          keep₂ = keep_trans keep₁ (keep_less (omega arith) (le_refl _) passed.keep)

          run₂ : {Γ : Ctx} → Run q w s.top g.at g.n Γ → Run q w₂ s₂.top g.at g.n Γ
          run₂ run = run_frame keep₂ (omega (arith, passed.up)) run

          pub left_space : {h : Here} {k k₂ : Key} {n n₂ : Entry} → EntryFrom h k INT n → EntryFrom h k₂ INT n₂
              → Space w₂ s₂ g 2 × SmallEntries (n ∷ n₂ ∷ [])
          left_space en en₂ = (room_space room₂ g 2 (run₂ pre.run) (omega arith), small_two (entry_small en (omega arith)) (entry_small en₂ (omega arith)))

          module _ {h : Here} {n n₂ : Entry} (en : EntryFrom h (ETVar x) INT n) (en₂ : EntryFrom h (Mark x) INT n₂) where
            pub opens_left : {w₃ : List ℕ} {o : Opened} → Pushed w₂ w₃ s₂ g (n ∷ n₂ ∷ []) o
                → OpensOn h q w w₃ s g r on_l (Ok (record { st = o.st; g = o.g; b = x; ty = made.ty }))
            opens_left {w₃} {o} p =
                let on = p.grown.past in
                let lf = on.left in
                let up : s₂.top ≤ o.st.top = omega (arith, on.top) in
                let kp : Keep s₂.top s.low w₂ w₃ = keep_less (le_refl _) (omega (arith, room₂.fits, passed.low)) p.grown.keep in
                let bt : Built w w₃ s o.st (4 * g.n + 10) =
                record {
                  keep = keep_trans keep₂ (keep_less (omega (arith, passed.up)) (le_refl _) kp);
                  up = omega (arith, passed.up);
                  low = on.low ∙ passed.low;
                  less = omega (arith, passed.paid);
                  built = omega (arith, on.top, passed.built);
                } in
                record {
                  opens = λ Γ v T run d.
                      let c = reached (makes d) e in
                      let f = nm.of_forall v T d in
                      let is : subst v (etvar v) T s.left s.fresh ≡ done c.type o.st.left s.fresh =
                      c.is ∙ ap (λ (n : ℕ). done c.type n s.fresh) (sym lf) in
                      rw is
                      (opened bt
                      (record {
                        name = f;
                        run = rw f at (push_two p (run₂ run) (as_unsolved en room₂.base) (as_mark en₂ room₂.base));
                        den = den_frame kp up c.den;
                        fresh = on.fresh ∙ passed.fresh;
                      }));
                }

-- ## What an instance tells

pub record InstanceOf (q w w' : List ℕ) (s : State) (g : Span) (b : syntax.TyVar) (Δ : Ctx) (o : Body) (R : Out Ty) : Type 0 where
  pub type : Ty
  pub is : R ≡ done type o.st.left s.fresh
  pub built : Built w w' s o.st (4 * g.n + 10)
  pub opens : Opens q w' s o b Δ type

pub instance_of : {q w w' : List ℕ} {s : State} {g : Span} {b : syntax.TyVar} {Δ : Ctx} {o : Body} {z : Result Body Spent} {R : Out Ty}
    → Instances q w w' s g b Δ z R → z ≡ Ok o → InstanceOf q w w' s g b Δ o R
instance_of {q} {w} {w'} {s} {g} {b} {Δ} {o} h e = go (rw e at h)
  where
    go : {S : Out Ty} → Instances q w w' s g b Δ (Ok o) S → InstanceOf q w w' s g b Δ o S
    go (opened {T = T} u v) = record { type = T; is = refl; built = u; opens = v }

pub record NoInstance (w w' : List ℕ) (s : State) (R : Out Ty) : Type 0 where
  pub keep : Keep s.top s.low w w'
  pub is : R ≡ stop

pub no_instance : {q w w' : List ℕ} {s : State} {g : Span} {b : syntax.TyVar} {Δ : Ctx} {z : Result Body Spent} {x : Spent} {R : Out Ty}
    → Instances q w w' s g b Δ z R → z ≡ Err x → NoInstance w w' s R
no_instance {q} {w} {w'} {s} {g} {b} {Δ} {x = x} h e = go (rw e at h)
  where
    go : {S : Out Ty} → Instances q w w' s g b Δ (Err x) S → NoInstance w w' s S
    go (spent k) = record { keep = k; is = refl }
