-- Kind 7: what the judgement came to, with its type resolved.
use mathlib.Core.Path.{◌≡◌, refl, sym, ◌∙◌}
use mathlib.Core.List.{List}
use Prim.Native.Nat.{ℕ, ◌+◌, ◌-◌, ◌*◌, ◌≤◌}
use native.Mathlib.Omega.{arith}
use native.Mathlib.Nat.{le_trans}
use Rattle.definition.specs.Syntax.{leaf, ◌&◌}
use Rattle.definition.specs.Run.{Out, stop, and_then, ◌>>=◌, give}
use Rattle.definition.specs.Rules.{Result}
use Rattle.laws.specs.Count.{charged}
use Rattle.layout.specs.declared.State.{State}
use Rattle.layout.proofs.Denotes.{run_frame}
use Rattle.substitution.specs.Calls.{ApplyPre, Applied}
use Rattle.layout.specs.declared.Made.{Made}
use Rattle.layout.specs.declared.Spent as layout
use Rattle.std.specs.Prelude.{Result as Outcome, Ok, Err, IsErrAnd}
use Rattle.substitution.proofs.Passing.{reached, ended, room_after}
use Rattle.judging.specs.declared.Answer.{Answer}
use Rattle.judging.specs.declared.Stop.{Stop}
use Rattle.judging.specs.declared.Stop.TheVariants.{Spent}
use Rattle.judging.specs.Ending.{Step, Landed, EndsJ, landed, failed, ran_out, charge_of}
use Rattle.judging.proofs.Nodes.{nodes_frame, nodes_at}
use Rattle.judging.proofs.Steps.{NotDone, no_done, not_done, stop_is, came}
use Rattle.entry.specs.Entry.{resolved, ResolvePre, Resolves}

-- it did not end well
pub resolve_else : {q w : List ℕ} {s : State} {z r : Step} {e : Stop} → z ≡ Err e → IsErrAnd r (λ y. y ≡ e) → Resolves q w w s z r
unfolding and_then charged
resolve_else {q} {w} {s} {z} {r} d f =
    let i : r ≡ z = stop_is r f ∙ sym d in
    let nd = not_done d in
    rw i (record { ends = λ R h. go h nd; charge = λ R h e. same h nd e })
  where
    same : {z : Step} {R : Out Result} → EndsJ q w s z R → NotDone z → charge_of z ≡ charged s.left R → charge_of z ≡ charged s.left (resolved R)
    same (landed {a = a} x) nd e = absurd (no_done a nd)
    same (failed x) nd e = e
    same ran_out nd e = e

    go : {z : Step} {R : Out Result} → EndsJ q w s z R → NotDone z → EndsJ q w s z (resolved R)
    go (landed {a = a} x) nd = absurd (no_done a nd)
    go (failed x) nd = failed x
    go ran_out nd = ran_out

module _ {q w : List ℕ} {s : State} {z : Step} {a : Answer} (d : z ≡ Ok a) where
  pub apply_pre : ResolvePre q w s z → ApplyPre q w a.st a.g a.ty
  apply_pre pre =
      let c = came pre.ends d in
      let x = c.land in
      record { spare = _; room = x.room; ctx = c.Δ; run = x.run; type = c.C; den = x.den }

  module _ {w₁ : List ℕ} {y : Outcome Made layout.Spent} (call : Applied q w w₁ a.st a.g a.ty y) where
    -- the application ran out
    pub resolve_spent : {x : layout.Spent} {r : Step} → y ≡ Err x → IsErrAnd r (λ e. e ≡ Spent) → Resolves q w w₁ s z r
    unfolding and_then ◌>>=◌ charged
    resolve_spent {r = r} e f = rw (stop_is r f) (record { ends = λ R h. rw (stops R h) ran_out; charge = λ R h _. rw (stops R h) refl })
      where
        stops : (R : Out Result) → EndsJ q w s z R → resolved R ≡ stop
        stops R h = let c = came h d in let f = ended (call.makes c.Δ c.land.run c.C c.land.den) e in rw (c.is, f.is) refl

    -- it came to a type
    pub resolve_less : ResolvePre q w s z → {m : Made} → y ≡ Ok m → m.st.left ≤ s.left
    resolve_less pre e =
        let c = came pre.ends d in
        let x = c.land in
        let f = reached (call.makes c.Δ x.run c.C x.den) e in
        omega (arith, x.less, f.passed.paid)

    pub resolve_done : {m : Made} {u : ℕ} → y ≡ Ok m → u ≡ s.left - m.st.left
        → Resolves q w w₁ s z (Ok (record { st = m.st; g = a.g; ty = m.ty; rule = a.rule; kids = a.kids; charge = u }))
    unfolding and_then ◌>>=◌ give charged
    resolve_done {m} {u} e i = record {
      charge = λ R h _.
          let c = came h d in
          let f = reached (call.makes c.Δ c.land.run c.C c.land.den) e in
          rw (i, c.is, f.is) refl;
      ends = λ R h.
          let c = came h d in
          let x = c.land in
          let f = reached (call.makes c.Δ x.run c.C x.den) e in
          let p = f.passed in
          let v = room_after x.room f in
          let b : Answer = record { st = m.st; g = a.g; ty = m.ty; rule = a.rule; kids = a.kids; charge = u } in
          let y : Landed q w₁ s b (4 * a.g.n + 4) f.type c.Δ (c.t & leaf) m.st.left a.st.fresh =
          record {
            run = run_frame p.keep p.up x.run;
            den = f.den;
            nodes = nodes_at (sym p.low) refl (nodes_frame p.keep p.up (λ i u l. p.keep.above i u) x.nodes);
            left = refl;
            fresh = p.fresh;
            up = le_trans x.up p.up;
            down = omega (arith, x.down, p.low);
            less = omega (arith, x.less, p.paid);
            room = record { base = v.base; fits = omega (arith, v.fits); low = v.low; cap = v.cap; names = v.names };
          } in
          rw (c.is, f.is) (landed y);
    }
