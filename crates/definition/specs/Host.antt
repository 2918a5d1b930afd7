-- "The telephone host is written in C and calls the library on byte slices: the question, and a reply whose first 16 bytes take the four
-- numbers, then the report, little-endian, with the desk program's sizes."
use Rattle.std.specs.Prelude.{ℕ, zero, suc, ◌+◌, ◌-◌, ◌*◌, ◌/◌, ◌%◌, min, List, [], ◌∷◌, ◌++◌, length, get_or, drop, ltb, eqb}
use Rattle.definition.specs.Syntax.{pick}
use Rattle.definition.specs.Reply.{Reply, refusal, reply, reply_computes}

-- ---- Little-endian words

-- the word i of the bytes b
unfoldable pub word_at : List ℕ → ℕ → ℕ
word_at b i = get_or b (4 * i) 0 + 256 * get_or b (4 * i + 1) 0 + 65536 * get_or b (4 * i + 2) 0 + 16777216 * get_or b (4 * i + 3) 0

-- the first n words of the bytes b
unfoldable pub words_of : List ℕ → ℕ → List ℕ
words_of b zero = []
words_of b (suc n) = words_of b n ++ (word_at b n ∷ [])

unfoldable pub bytes_of : List ℕ → List ℕ
bytes_of [] = []
bytes_of (w ∷ ws) = w % 256 ∷ w / 256 % 256 ∷ w / 65536 % 256 ∷ w / 16777216 % 256 ∷ bytes_of ws

-- ---- "The desk program .. uses budget 384, 16,384 work and 4,096 report words"

unfoldable pub desk_reply : ℕ → List ℕ → Reply
desk_reply room question = reply 384 16384 (min room 4096) question

-- "A question that isn't whole words is BadLength"; of the desk program's: "Input that isn't whole words is BadLength."
unfoldable pub byte_reply : ℕ → List ℕ → Reply
byte_reply room question =
    let r : Reply = desk_reply room (words_of question (length question / 4)) in
    pick (eqb (length question % 4) 0) r (refusal 3 0 0)

-- | 8 ShortReply | telephone host only, below | none |
-- "a reply under 16 bytes returns 8 before all else and writes nothing; otherwise the call returns the
-- code, and bytes past the report stay"
pub record HostCall : Type 0 where
  pub returns : ℕ
  pub reply_slice : List ℕ

unfoldable pub numbers : Reply → List ℕ
numbers r = r.code ∷ r.at ∷ r.len ∷ r.units ∷ []

-- "Report room is the whole words after those 16 bytes, at most 4,096" (desk_reply)
unfoldable pub host_call : List ℕ → List ℕ → HostCall
host_call question slice =
    let r : Reply = byte_reply ((length slice - 16) / 4) question in
    let ws : List ℕ = numbers r ++ r.report in
    pick (ltb (length slice) 16)
    (record { returns = 8; reply_slice = slice })
    (record { returns = r.code; reply_slice = bytes_of ws ++ drop (4 * length ws) slice })

-- `unfolding host_computes` opens every definition above, and those they rest on
unfoldable pub host_computes : Unit {0}
unfolding word_at words_of bytes_of desk_reply byte_reply numbers host_call reply_computes
host_computes = tt
