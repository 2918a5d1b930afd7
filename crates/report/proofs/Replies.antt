-- For callers: from how a run ended to what is reported.
use mathlib.Core.Path.{refl}
use Prim.Native.Nat.{◌≤◌}
use native.Mathlib.Omega.{arith}
use lib.ListN.{length}
use Rattle.std.specs.Prelude.{List, Result as Outcome, ℕ}
use Rattle.definition.specs.Syntax.{Ty, Ctx, Tree, leaf, ◌&◌, TypeError}
use Rattle.definition.specs.Rules.{Result}
use Rattle.definition.specs.Reply.{error_words, result_words}
use Rattle.layout.specs.Room as layout
use Rattle.layout.specs.declared.State.{State}
use Rattle.judging.specs.Ending.{Landed, Failed}
use Rattle.judging.specs.declared.Answer.{Answer}
use Rattle.judging.specs.declared.Bad.{Bad}
use Rattle.writing.specs.Spelling.{Ground, Spelled}
use Rattle.report.specs.declared.NoRoom.{NoRoom}
use Rattle.report.specs.Reports.{ResultAt, OfResult, OfError, Reported, Reports}

-- ## From how a run ended

pub room_ground : {q w : List ℕ} {st : State} {k : ℕ} → layout.Room q w st k → Ground q w st.top
room_ground r = record { base = r.base; fits = omega (arith, r.fits, r.low); cap = r.cap }

pub landed_result : {q w : List ℕ} {s : State} {a : Answer} {k l n : ℕ} {C : Ty} {Δ : Ctx} {t : Tree} → Landed q w s a k C Δ (t & leaf) l n
    → s.low ≤ length w → ResultAt q w a s.low (C, Δ, t)
landed_result x h = record { den = x.den; run = x.run; nodes = x.nodes; within = h }

module _ {q w : List ℕ} {a : Answer} {high : ℕ} {r : Result} (kind : ℕ) (x : ResultAt q w a high r) where
  pub result_spelled : Ground q w a.st.top → Spelled q w a.st.top (OfResult q w kind a high)
  result_spelled g = record { ground = g; words = result_words kind r; says = record { it = r; stands = x; is = refl } }

  pub result_reported : {s s' : List ℕ} {z : Outcome ℕ NoRoom} → Reports (OfResult q w kind a high) s s' z → Reported s s' (result_words kind r) z
  result_reported k = k.is (result_words kind r) (record { it = r; stands = x; is = refl })

module _ {q w : List ℕ} {b : Bad} {e : TypeError} {l : ℕ} (x : Failed q w b e l) where
  pub error_spelled : Ground q w b.st.top → Spelled q w b.st.top (OfError q w b)
  error_spelled g = record { ground = g; words = error_words e.shown; says = record { it = e.shown; stands = x.shown; is = refl } }

  pub error_reported : {s s' : List ℕ} {z : Outcome ℕ NoRoom} → Reports (OfError q w b) s s' z → Reported s s' (error_words e.shown) z
  error_reported k = k.is (error_words e.shown) (record { it = e.shown; stands = x.shown; is = refl })
