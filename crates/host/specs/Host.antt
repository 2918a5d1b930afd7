-- What the functions for C promise: the definition's host_call, and its call.
use Rattle.std.specs.Prelude.{◌≡◌, List, [], ◌∷◌, ℕ}
use Rattle.definition.specs.Host.{host_call, numbers}
use Rattle.definition.specs.Memory.{call}
use Rattle.replies.specs.declared.Reply.{Reply}

-- the question's bytes b, the reply slice s before and s' after
pub record Answered (b s s' : List ℕ) (r : ℕ) : Type 0 where
  pub returns : r ≡ (host_call b s).returns
  pub reply : s' ≡ (host_call b s).reply_slice

-- question q, work w and report slice s before, w' and s' after, and where the four numbers went
pub record Checked (budget : ℕ) (q w w' s s' ns : List ℕ) (r : ℕ) : Type 0 where
  pub returns : r ≡ (call budget q w s).answered.code
  pub four : ns ≡ numbers (call budget q w s).answered
  pub report : s' ≡ (call budget q w s).report_slice
  pub work : w' ≡ (call budget q w s).work_slice

-- ## Inside

-- the four numbers of a reply
abbrev pub numbers_of : Reply → List ℕ
numbers_of r = r.code ∷ r.at ∷ r.len ∷ r.units ∷ []
