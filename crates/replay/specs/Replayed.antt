-- A frame's reply: the definition's, as bytes.
use Rattle.std.specs.Prelude.{◌≡◌, List, ◌++◌, ℕ, ◌*◌, ◌≤◌, min, length, take}
use Rattle.definition.specs.Reply as definition
use Rattle.definition.specs.Reply.{reply}
use Rattle.definition.specs.Host.{word_at, words_of, bytes_of, numbers}
use Rattle.replies.specs.declared.Reply.{Reply}
use Rattle.replies.specs.Numbers.{Numbers, written_of}
use Rattle.replay.specs.declared.Frame.{Frame}

-- the reply to a frame whose question stands in the first bytes of b
abbrev pub framed : Frame → List ℕ → definition.Reply
framed f b = reply f.budget f.work f.report (words_of b f.count)

-- the first z bytes of out are the four numbers and the report
pub record Replayed (f : Frame) (b out : List ℕ) (z : ℕ) : Type 0 where
  pub is : take z out ≡ bytes_of (numbers (framed f b) ++ (framed f b).report)
  pub within : z ≤ length out

-- ## Inside

-- what main lends
pub record LentByMain (b ws s o : List ℕ) : Type 0 where
  pub bytes : length b ≡ 16384
  pub words : length ws ≡ 4096
  pub report : length s ≡ 4096
  pub out : length o ≡ 16400

-- the frame in the first 16 bytes, with as much work as is lent
pub record Framed (b : List ℕ) (lent : ℕ) (f : Frame) : Type 0 where
  pub budget : f.budget ≡ word_at b 0
  pub work : f.work ≡ min (word_at b 1) lent
  pub report : f.report ≡ word_at b 2
  pub count : f.count ≡ word_at b 3

-- a frame asks for no more than is lent
pub record FrameFits (f : Frame) (b ws w s : List ℕ) : Type 0 where
  pub bytes : 4 * f.count ≤ length b
  pub words : f.count ≤ length ws
  pub work : f.work ≤ length w
  pub report : f.report ≤ length s

-- the report stands in the first words of s'
pub record FrameAnswered (f : Frame) (b s' : List ℕ) (r : Reply) : Type 0 where
  pub numbers : Numbers (framed f b) r
  pub report : take (written_of r) s' ≡ (framed f b).report
  pub fits : written_of r ≤ f.report
