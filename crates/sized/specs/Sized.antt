-- What is lent, and what is answered: the definition's byte_reply, in the four numbers and in the report's words.
use Rattle.std.specs.Prelude.{◌≡◌, List, ℕ, ◌≤◌, length, take}
use Rattle.definition.specs.Host.{byte_reply}
use Rattle.definition.specs.Memory.{report_after}
use Rattle.replies.specs.declared.Reply.{Reply}
use Rattle.replies.specs.Numbers.{Numbers, written_of}

-- words for the question, work, and a report slice
pub record Lent (ws w s : List ℕ) : Type 0 where
  pub words : length ws ≡ 2048
  pub work : length w ≡ 16384
  pub report : length s ≡ 4096

-- the question's bytes b, the room, and the report slice s' afterwards
pub record Told (b : List ℕ) (room : ℕ) (s' : List ℕ) (r : Reply) : Type 0 where
  pub numbers : Numbers (byte_reply room b) r
  pub report : take (written_of r) s' ≡ (byte_reply room b).report
  pub fits : written_of r ≤ room

-- ## Inside: a report slice as long as there is room

pub record Fit (ws w s : List ℕ) : Type 0 where
  pub words : length ws ≡ 2048
  pub work : length w ≡ 16384
  pub room : length s ≤ 4096

-- the question's bytes b, the report slice s before and s' after
pub record BytesAnswered (b s s' : List ℕ) (r : Reply) : Type 0 where
  pub numbers : Numbers (byte_reply (length s) b) r
  pub report : s' ≡ report_after (byte_reply (length s) b) s
