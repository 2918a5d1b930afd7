-- From a question that was read to the judgement that it asks.
use mathlib.Core.Path.{◌≡◌, sym, ◌∙◌}
use mathlib.Core.List.{List}
use Prim.Native.Nat.{ℕ, ◌+◌, ◌*◌, ◌≤◌}
use native.Mathlib.Omega.{arith}
use lib.ListN.{length}
use Rattle.definition.specs.Syntax.{given}
use Rattle.definition.specs.Reply.{work_words}
use Rattle.layout.specs.States.{started}
use Rattle.layout.specs.declared.State.{State}
use Rattle.layout.proofs.Denotes.{base_frame}
use Rattle.contexts.specs.declared.Opened.{Opened}
use Rattle.reading.proofs.Questions.{asks_context}
use Rattle.loading.specs.Table.{Sized, Laid}
use Rattle.reading.specs.declared.Question.{Question}
use Rattle.loading.specs.Loading.{Loading, Loaded}
use Rattle.entry.specs.Entry.{OpenPre, Prepares}

-- ## Laying and loading

module _ {q w : List ℕ} {budget : ℕ} {a : Question} (pre : OpenPre q w budget a) where
  pub prepared : budget ≤ 8192
  prepared = pre.run.high

  pub sized : Sized q w
  unfolding work_words
  sized = record { small = pre.run.few; room = omega (arith, pre.run.long, pre.run.low) }

  module _ {w₁ : List ℕ} (laid : Laid q w w₁) where
    size : length w₁ ≡ 32 * budget + 4096
    unfolding work_words
    size = sym laid.keep.long ∙ pre.run.long

    pub loading : {low : ℕ} {s : State} → low ≡ work_words budget → s ≡ started low budget → Loading q w₁ s a.context a.entries
    loading e f =
        let c = asks_context pre.run.read.asks in
        let z = size in
        rw f (record {
          loads = record {
            base = laid.base;
            room = omega (arith, pre.paid);
            cap = omega (arith, pre.run.high);
            Γ = given pre.run.read.asked.asks;
            end = c.past;
            list = c.list;
          };
        })

    pub opens : {low : ℕ} {s : State} {w₂ : List ℕ} {o : Opened} → low ≡ work_words budget → s ≡ started low budget
        → Loaded q w₁ w₂ s a.context a.entries o → Prepares q w₂ budget a o
    unfolding work_words
    opens {low} {w₂ = w₂} {o} g h m =
        let l : Loaded q w₁ w₂ (started low budget) a.context a.entries o = rw h at m in
        let z = size in
        let t = l.past.top in
        let n = l.past.count in
        let b = l.past.low in
        let e = l.past.left in
        let f = l.past.fresh in
        record {
          ready = record {
            base = base_frame l.keep (omega arith) laid.base;
            fits = omega arith;
            over = omega (arith, pre.paid);
            low = omega (arith, l.keep.long);
            cap = omega (arith, l.keep.long, pre.run.high);
            names = omega (arith, pre.run.high);
          };
          low = b ∙ g;
          left = e;
          fresh = f;
          count = n;
          run = λ Γ c. l.run Γ c.past c.list;
        }
