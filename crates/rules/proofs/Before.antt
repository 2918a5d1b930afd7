-- Before a judgement is asked: what InfLam makes, the fresh unknown and its arrow.
use mathlib.Core.Path.{◌≡◌, ◌∙◌, ap}
use mathlib.Core.List.{List, [], ◌∷◌}
use Prim.Native.Nat.{ℕ, ◌+◌, ◌≤◌}
use native.Mathlib.Nat.{le_refl}
use native.Mathlib.Omega.{arith}
use lib.ListN.{length}
use Rattle.definition.specs.Syntax.{etvar, arrow}
use Rattle.layout.specs.Sizes.{INT, CAP}
use Rattle.layout.specs.Names.{ty}
use Rattle.layout.specs.States.{fresh_name, named, raised, Draws}
use Rattle.layout.specs.Words.{Keep}
use Rattle.layout.specs.Denotes.{Den, Base}
use Rattle.layout.specs.declared.Drawn.{Drawn}
use Rattle.layout.specs.declared.Entry.{Entry}
use Rattle.layout.specs.declared.Key.TheVariants.{Var, ETVar}
use Rattle.layout.specs.declared.Span.{Span}
use Rattle.layout.specs.declared.State.{State}
use Rattle.layout.specs.declared.TmVar.{TmVar}
use Rattle.layout.specs.declared.TyVar as tyvar
use Rattle.layout.proofs.Words.{keep_less, keep_trans}
use Rattle.layout.proofs.Denotes.{den_frame, den_small, run_frame, base_frame}
use Rattle.types.specs.Making.{ArrowRoom, PutETVar, PutArrow}
use Rattle.contexts.specs.Build.{Space, SmallEntries, Pushed}
use Rattle.contexts.specs.declared.Opened.{Opened}
use Rattle.contexts.proofs.Build.{small_two, push_two}
use Rattle.judging.specs.Asking.{EntryFrom}
use Rattle.judging.specs.declared.Here.{Here}
use Rattle.judging.proofs.Entries.{entry_small, as_var, as_unsolved}
use Rattle.rules.specs.Going.{LamPre, LamIn}

-- ## A lambda

module _ {q w w₁ : List ℕ} {s : State} {g : Span} {a k : ℕ} {b : tyvar.TyVar} (pre : LamPre q w s g a) (e : PutETVar w w₁ s.top b k) where
  kept : Keep s.top s.low w w₁
  kept = keep_less (le_refl _) (omega (arith, pre.room.fits)) e.keep

  pub lam_arrow : ArrowRoom q w₁ (s.top + 2) a k
  lam_arrow =
      let l = kept.long in
      let n : s.top + 2 + 4 ≤ length w₁ = omega (arith, pre.room.fits, pre.room.low) in
      let c : length w₁ ≤ CAP = omega (arith, pre.room.cap) in
      let bs : Base q w₁ (s.top + 2) = base_frame kept (omega arith) pre.room.base in
      record {
        room = n;
        left = record { base = bs; fits = omega arith; cap = c; type = _; den = den_frame kept (omega arith) pre.den };
        right = record { base = bs; fits = omega arith; cap = c; type = _; den = e.den q };
      }

  module _ {w₂ : List ℕ} {l : ℕ} (f : PutArrow q w₁ w₂ (s.top + 2) a k l) where
    abbrev s₁ : State
    s₁ = raised (named s) 6

    kept₂ : Keep s.top s.low w w₂
    kept₂ = keep_trans kept (keep_less (omega arith) (omega (arith, pre.room.fits)) f.keep)

    module _ {d : Drawn} {p : State} (one : Draws s d) (ep : p ≡ raised d.st 6) where
      is_past : p ≡ s₁
      is_past = ep ∙ ap (λ (t : State). raised t 6) one.st

      module _ {h : Here} {n n₂ : Entry} {x : TmVar} (en : EntryFrom h (Var x) a n) (en₂ : EntryFrom h (ETVar b) INT n₂) where
        pub lam_space : Space w₂ p g 2 × SmallEntries (n ∷ n₂ ∷ [])
        lam_space =
            let l = kept₂.long in
            let u = den_small pre.den in
            rw is_past (
              record { below = omega (arith, pre.below); room = omega (arith, pre.room.fits); low = omega (arith, pre.room.low); cap = omega (arith, pre.room.cap) },
              small_two (entry_small en (omega (arith, pre.room.fits, pre.room.low, pre.room.cap))) (entry_small en₂ (omega arith)),
            )

        pub lam_opened : {w₃ : List ℕ} {o : Opened} → b ≡ d.name → Pushed w₂ w₃ p g (n ∷ n₂ ∷ []) o
            → LamIn h q w w₃ s g x a (record { st = o.st; g = o.g; b = k; ty = l })
        lam_opened {w₃} {o} eb pushed =
            let i : Pushed w₂ w₃ s₁ g (n ∷ n₂ ∷ []) o = rw is_past at pushed in
            let past = i.grown.past in
            let top = past.top in
            let name : ty b ≡ fresh_name s.fresh = rw eb one.name in
            let m : s.top + 2 + 4 ≡ s.top + 6 = omega arith in
            let k₃ : Keep s₁.top s.low w₂ w₃ = keep_less (le_refl _) (omega (arith, pre.room.fits)) i.grown.keep in
            let bs : Base q w₂ s₁.top = base_frame kept₂ (omega arith) pre.room.base in
            record {
              keep = keep_trans kept₂ (keep_less (omega arith) (le_refl _) k₃);
              up = omega arith;
              most = omega arith;
              low = past.low;
              left = past.left;
              fresh = omega (arith, past.fresh);
              run = λ Γ A r y. rw name at (push_two i (run_frame kept₂ (omega arith) r) (as_var en (den_frame kept₂ (omega arith) y)) (as_unsolved en₂ bs));
              unknown =
                  let u : Den q w₂ s₁.top k (etvar (ty b)) = den_frame f_keep (omega arith) (e.den q) in
                  let v : Den q w₃ o.st.top k (etvar (ty b)) = den_frame k₃ (omega arith) u in
                  rw name at v;
              arrow = λ A y.
                  let r : Den q w₂ s₁.top l (arrow A (etvar (ty b))) = rw m at (f.den A (etvar (ty b)) (den_frame kept (omega arith) y) (e.den q)) in
                  let v : Den q w₃ o.st.top l (arrow A (etvar (ty b))) = den_frame k₃ (omega arith) r in
                  rw name at v;
            }
          where
            f_keep : Keep (s.top + 2) s.low w₁ w₂
            f_keep = keep_less (le_refl _) (omega (arith, pre.room.fits)) f.keep
