-- Pairs of questions that are alike and pairs that are not, with their replies, as one table under one theorem; a literal that may be any
-- number; and fresh names.
use mathlib.Core.Path.{◌≡◌, refl, ap}
use Prim.Native.Nat.{ℕ, ◌≤◌}
use native.Mathlib.Omega.{arith}
use mathlib.Core.Bool.{Bool, true, false}
use mathlib.Core.List.{List, [], ◌∷◌, map}
use Rattle.definition.specs.Reply.{reply, reply_computes}
use Rattle.laws.proofs.Cases.{Says, wholly, begins, asked, seen}
use Rattle.alike.specs.Alike.{Pairing, type_name, IsExpr, IsQuestion, ReplyName, written, fresh, InReplies, InQuestions.same, halves, none, more}
use Rattle.alike.proofs.Demand3.{no_literal}
use Rattle.alike.proofs.Deciding.{are_alike, Decided, decided, deciding_computes}

-- ## The table

-- a question, and what is said of its reply with budget 384
abbrev pub Example : Type 0
Example = List ℕ × Says

-- whether two are alike, and both
abbrev pub Pair : Type 0
Pair = Bool × Example × Example

abbrev pub alike : Example → Example → Pair
alike q q' = (true, q, q')

abbrev pub apart : Example → Example → Pair
apart q q' = (false, q, q')

-- as much of a question's reply as is said, computed
abbrev pub begun : Example → Says
begun q = seen (asked (384, q.0, q.1)) q.1

-- alike under some pairing, or under none
abbrev pub PairHolds : Pair → Type 1
PairHolds (b, q, q') = Decided b q.0 q'.0 × (begun q ≡ q.1) × (begun q' ≡ q'.1)

pub data All (F : Pair → Type 1) : List Pair → Type 1 where
  no_pair : All F []
  ◌⨾◌ : {p : Pair} {l : List Pair} → F p → All F l → All F (p ∷ l)

infixr 20 ◌⨾◌
-- Names 1 = A, 2 = B, 3 = C, 5 = x, 6 = y in the first question of a pair; ^A is ETVar A; "where" tells the context.
unfoldable pub pairs : List Pair
pairs =
    -- kind 1, strict: fun y:A. x, where A and x : A; A, x and y renamed, the fresh name the same
    alike
    (1 ∷ 1 ∷ 6 ∷ 33 ∷ 1 ∷ 32 ∷ 5 ∷ 3 ∷ 1 ∷ 6 ∷ 18 ∷ 6 ∷ 3 ∷ 1 ∷ 16 ∷ 5 ∷ 0 ∷ 0 ∷ [], begins 0 0 (5 ∷ 5 ∷ 3 ∷ 1 ∷ 4 ∷ 1000000 ∷ 4 ∷ 35 ∷ 1000000 ∷ 3 ∷ 1 ∷ []))
    (1 ∷ 1 ∷ 6 ∷ 33 ∷ 8 ∷ 32 ∷ 7 ∷ 3 ∷ 8 ∷ 6 ∷ 18 ∷ 999999 ∷ 3 ∷ 8 ∷ 16 ∷ 7 ∷ 0 ∷ 0 ∷ [], begins 0 0 (5 ∷ 5 ∷ 3 ∷ 8 ∷ 4 ∷ 1000000 ∷ 4 ∷ 35 ∷ 1000000 ∷ 3 ∷ 8 ∷ []))
    ∷
    -- kind 2, strict: fun x:A. 1 against B to Int; A and B exchanged, another literal
    alike
    (2 ∷ 1 ∷ 0 ∷ 7 ∷ 18 ∷ 5 ∷ 3 ∷ 1 ∷ 22 ∷ 1 ∷ 0 ∷ 0 ∷ 4 ∷ 5 ∷ 3 ∷ 2 ∷ 1 ∷ [], begins 17 0 (2 ∷ 3 ∷ 1 ∷ 2 ∷ 3 ∷ 2 ∷ []))
    (2 ∷ 1 ∷ 0 ∷ 7 ∷ 18 ∷ 5 ∷ 3 ∷ 2 ∷ 22 ∷ 4294967295 ∷ 4294967295 ∷ 0 ∷ 4 ∷ 5 ∷ 3 ∷ 1 ∷ 1 ∷ [], begins 17 0 (2 ∷ 3 ∷ 2 ∷ 2 ∷ 3 ∷ 1 ∷ []))
    ∷
    -- order 2, kind 2, strict: fun x:(all A. A). 1 against (all B. B) to Int; A and B exchanged, another literal
    alike
    (2 ∷ 1 ∷ 0 ∷ 9 ∷ 18 ∷ 5 ∷ 6 ∷ 1 ∷ 3 ∷ 1 ∷ 22 ∷ 1 ∷ 0 ∷ 0 ∷ 6 ∷ 5 ∷ 6 ∷ 2 ∷ 3 ∷ 2 ∷ 1 ∷ [], begins 0 0 (0 ∷ 0 ∷ 35 ∷ 19 ∷ 1 ∷ 4 ∷ 0 ∷ 0 ∷ 6 ∷ 5 ∷ 6 ∷ 2 ∷ 3 ∷ 2 ∷ 1 ∷ []))
    (2 ∷ 1 ∷ 0 ∷ 9 ∷ 18 ∷ 5 ∷ 6 ∷ 2 ∷ 3 ∷ 2 ∷ 22 ∷ 7 ∷ 7 ∷ 0 ∷ 6 ∷ 5 ∷ 6 ∷ 1 ∷ 3 ∷ 1 ∷ 1 ∷ [], begins 0 0 (0 ∷ 0 ∷ 35 ∷ 19 ∷ 1 ∷ 4 ∷ 0 ∷ 0 ∷ 6 ∷ 5 ∷ 6 ∷ 1 ∷ 3 ∷ 1 ∷ 1 ∷ []))
    ∷
    -- the same of all A. B, where B is free, against all B. B; A gets the number that B had, and B another
    alike
    (2 ∷ 1 ∷ 0 ∷ 9 ∷ 18 ∷ 5 ∷ 6 ∷ 1 ∷ 3 ∷ 2 ∷ 22 ∷ 1 ∷ 0 ∷ 0 ∷ 6 ∷ 5 ∷ 6 ∷ 2 ∷ 3 ∷ 2 ∷ 1 ∷ [], begins 17 0 (4 ∷ 6 ∷ 1 ∷ 3 ∷ 2 ∷ 4 ∷ 6 ∷ 2 ∷ 3 ∷ 2 ∷ []))
    (2 ∷ 1 ∷ 0 ∷ 9 ∷ 18 ∷ 5 ∷ 6 ∷ 2 ∷ 3 ∷ 7 ∷ 22 ∷ 1 ∷ 0 ∷ 0 ∷ 6 ∷ 5 ∷ 6 ∷ 7 ∷ 3 ∷ 7 ∷ 1 ∷ [], begins 17 0 (4 ∷ 6 ∷ 2 ∷ 3 ∷ 7 ∷ 4 ∷ 6 ∷ 7 ∷ 3 ∷ 7 ∷ []))
    ∷
    -- kind 3: x, where x : A, for A to B; x gets the number that A had, and A the one that x had
    alike
    (3 ∷ 0 ∷ 4 ∷ 32 ∷ 5 ∷ 3 ∷ 1 ∷ 2 ∷ 16 ∷ 5 ∷ 5 ∷ 5 ∷ 3 ∷ 1 ∷ 3 ∷ 2 ∷ 0 ∷ [], begins 0 0 (2 ∷ 3 ∷ 2 ∷ 4 ∷ 32 ∷ 5 ∷ 3 ∷ 1 ∷ []))
    (3 ∷ 0 ∷ 4 ∷ 32 ∷ 1 ∷ 3 ∷ 5 ∷ 2 ∷ 16 ∷ 1 ∷ 5 ∷ 5 ∷ 3 ∷ 5 ∷ 3 ∷ 2 ∷ 0 ∷ [], begins 0 0 (2 ∷ 3 ∷ 2 ∷ 4 ∷ 32 ∷ 1 ∷ 3 ∷ 5 ∷ []))
    ∷
    -- kind 4: all A. A to A against Int to ^C, where ^C; both names renamed
    alike
    (4 ∷ 0 ∷ 2 ∷ 34 ∷ 3 ∷ 0 ∷ 7 ∷ 6 ∷ 1 ∷ 5 ∷ 3 ∷ 1 ∷ 3 ∷ 1 ∷ 4 ∷ 5 ∷ 1 ∷ 4 ∷ 3 ∷ [], begins 0 0 (0 ∷ 4 ∷ 35 ∷ 1 ∷ 4 ∷ 3 ∷ []))
    (4 ∷ 0 ∷ 2 ∷ 34 ∷ 1 ∷ 0 ∷ 7 ∷ 6 ∷ 2 ∷ 5 ∷ 3 ∷ 2 ∷ 3 ∷ 2 ∷ 4 ∷ 5 ∷ 1 ∷ 4 ∷ 1 ∷ [], begins 0 0 (0 ∷ 4 ∷ 35 ∷ 2 ∷ 4 ∷ 1 ∷ []))
    ∷
    -- kind 5, strict: ^B against ^A, where ^A and ^B; both renamed
    alike
    (5 ∷ 1 ∷ 4 ∷ 34 ∷ 1 ∷ 34 ∷ 2 ∷ 0 ∷ 2 ∷ 4 ∷ 2 ∷ 2 ∷ 4 ∷ 1 ∷ [], begins 0 0 (0 ∷ 6 ∷ 35 ∷ 1 ∷ 4 ∷ 2 ∷ 34 ∷ 2 ∷ []))
    (5 ∷ 1 ∷ 4 ∷ 34 ∷ 2 ∷ 34 ∷ 0 ∷ 0 ∷ 2 ∷ 4 ∷ 0 ∷ 2 ∷ 4 ∷ 2 ∷ [], begins 0 0 (0 ∷ 6 ∷ 35 ∷ 2 ∷ 4 ∷ 0 ∷ 34 ∷ 0 ∷ []))
    ∷
    -- kind 5: ^A against A, case (o); renamed in at too, a type's name
    alike
    (5 ∷ 0 ∷ 0 ∷ 0 ∷ 2 ∷ 4 ∷ 1 ∷ 2 ∷ 3 ∷ 1 ∷ [], begins 14 1 (2 ∷ 3 ∷ 1 ∷ 0 ∷ []))
    (5 ∷ 0 ∷ 0 ∷ 0 ∷ 2 ∷ 4 ∷ 7 ∷ 2 ∷ 3 ∷ 7 ∷ [], begins 14 7 (2 ∷ 3 ∷ 7 ∷ 0 ∷ []))
    ∷
    -- kind 6: Int to Bool against ^A, where ^A; renamed, two fresh names the same
    alike
    (6 ∷ 0 ∷ 2 ∷ 34 ∷ 1 ∷ 0 ∷ 3 ∷ 5 ∷ 1 ∷ 2 ∷ 2 ∷ 4 ∷ 1 ∷ [], begins 0 0 (0 ∷ 13 ∷ 35 ∷ 1 ∷ 5 ∷ 4 ∷ 1000000 ∷ 4 ∷ 1000001 ∷ 35 ∷ 1000000 ∷ 1 ∷ 35 ∷ 1000001 ∷ 2 ∷ []))
    (6 ∷ 0 ∷ 2 ∷ 34 ∷ 9 ∷ 0 ∷ 3 ∷ 5 ∷ 1 ∷ 2 ∷ 2 ∷ 4 ∷ 9 ∷ [], begins 0 0 (0 ∷ 13 ∷ 35 ∷ 9 ∷ 5 ∷ 4 ∷ 1000000 ∷ 4 ∷ 1000001 ∷ 35 ∷ 1000000 ∷ 1 ∷ 35 ∷ 1000001 ∷ 2 ∷ []))
    ∷
    -- kind 7: tfun A. fun x:A. x, case (g), where A and x have one number; they get two
    alike
    (7 ∷ 0 ∷ 0 ∷ 8 ∷ 20 ∷ 5 ∷ 18 ∷ 5 ∷ 3 ∷ 5 ∷ 16 ∷ 5 ∷ 0 ∷ 0 ∷ [], begins 0 0 (7 ∷ 6 ∷ 5 ∷ 5 ∷ 3 ∷ 5 ∷ 3 ∷ 5 ∷ []))
    (7 ∷ 0 ∷ 0 ∷ 8 ∷ 20 ∷ 1 ∷ 18 ∷ 2 ∷ 3 ∷ 1 ∷ 16 ∷ 2 ∷ 0 ∷ 0 ∷ [], begins 0 0 (7 ∷ 6 ∷ 1 ∷ 5 ∷ 3 ∷ 1 ∷ 3 ∷ 1 ∷ []))
    ∷
    -- kind 7: let x = true in y; x and y exchanged, in at too, another literal
    alike
    (7 ∷ 0 ∷ 0 ∷ 6 ∷ 24 ∷ 5 ∷ 23 ∷ 1 ∷ 16 ∷ 6 ∷ 0 ∷ 0 ∷ [], begins 11 6 (0 ∷ 0 ∷ []))
    (7 ∷ 0 ∷ 0 ∷ 6 ∷ 24 ∷ 6 ∷ 23 ∷ 0 ∷ 16 ∷ 5 ∷ 0 ∷ 0 ∷ [], begins 11 5 (0 ∷ 0 ∷ []))
    ∷
    -- two variables made one: fun x:Int. fun y:Int. x, and fun x:Int. fun x:Int. x
    apart
    (7 ∷ 0 ∷ 0 ∷ 8 ∷ 18 ∷ 5 ∷ 1 ∷ 18 ∷ 6 ∷ 1 ∷ 16 ∷ 5 ∷ 0 ∷ 0 ∷ [], begins 0 0 (5 ∷ 5 ∷ 1 ∷ 5 ∷ 1 ∷ 1 ∷ 16 ∷ 35 ∷ 1000001 ∷ 1 ∷ []))
    (7 ∷ 0 ∷ 0 ∷ 8 ∷ 18 ∷ 5 ∷ 1 ∷ 18 ∷ 5 ∷ 1 ∷ 16 ∷ 5 ∷ 0 ∷ 0 ∷ [], begins 0 0 (5 ∷ 5 ∷ 1 ∷ 5 ∷ 1 ∷ 1 ∷ 16 ∷ 35 ∷ 1000000 ∷ 5 ∷ []))
    ∷
    -- one variable made two: fun x:Int. x, case (b), and fun x:Int. y
    apart
    (7 ∷ 0 ∷ 0 ∷ 5 ∷ 18 ∷ 5 ∷ 1 ∷ 16 ∷ 5 ∷ 0 ∷ 0 ∷ [], begins 0 0 (3 ∷ 5 ∷ 1 ∷ 1 ∷ []))
    (7 ∷ 0 ∷ 0 ∷ 5 ∷ 18 ∷ 5 ∷ 1 ∷ 16 ∷ 6 ∷ 0 ∷ 0 ∷ [], begins 11 6 (0 ∷ 0 ∷ []))
    ∷
    -- a variable renamed in one of two functions, fun x:Int. x: a pairing is the whole question's
    apart
    (7 ∷ 0 ∷ 0 ∷ 13 ∷ 25 ∷ 23 ∷ 1 ∷ 18 ∷ 5 ∷ 1 ∷ 16 ∷ 5 ∷ 18 ∷ 5 ∷ 1 ∷ 16 ∷ 5 ∷ 0 ∷ 0 ∷ [], begins 0 0 (3 ∷ 5 ∷ 1 ∷ 1 ∷ []))
    (7 ∷ 0 ∷ 0 ∷ 13 ∷ 25 ∷ 23 ∷ 1 ∷ 18 ∷ 5 ∷ 1 ∷ 16 ∷ 5 ∷ 18 ∷ 6 ∷ 1 ∷ 16 ∷ 6 ∷ 0 ∷ 0 ∷ [], begins 0 0 (3 ∷ 5 ∷ 1 ∷ 1 ∷ []))
    ∷
    -- two type names made one: A against B, and A against A
    apart
    (4 ∷ 0 ∷ 0 ∷ 0 ∷ 2 ∷ 3 ∷ 1 ∷ 2 ∷ 3 ∷ 2 ∷ [], begins 15 0 (2 ∷ 3 ∷ 1 ∷ 2 ∷ 3 ∷ 2 ∷ []))
    (4 ∷ 0 ∷ 0 ∷ 0 ∷ 2 ∷ 3 ∷ 1 ∷ 2 ∷ 3 ∷ 1 ∷ [], begins 0 0 (0 ∷ 0 ∷ 12 ∷ 23 ∷ 0 ∷ 0 ∷ []))
    ∷
    -- a bound name renamed alone, though both are accepted: all A. A against all B. B, and against all A. A; a pairing is of names, bound ones too
    apart
    (2 ∷ 1 ∷ 0 ∷ 9 ∷ 18 ∷ 5 ∷ 6 ∷ 1 ∷ 3 ∷ 1 ∷ 22 ∷ 1 ∷ 0 ∷ 0 ∷ 6 ∷ 5 ∷ 6 ∷ 2 ∷ 3 ∷ 2 ∷ 1 ∷ [], begins 0 0 (0 ∷ 0 ∷ 35 ∷ 19 ∷ 1 ∷ 4 ∷ 0 ∷ 0 ∷ 6 ∷ 5 ∷ 6 ∷ 2 ∷ 3 ∷ 2 ∷ 1 ∷ []))
    (2 ∷ 1 ∷ 0 ∷ 9 ∷ 18 ∷ 5 ∷ 6 ∷ 1 ∷ 3 ∷ 1 ∷ 22 ∷ 1 ∷ 0 ∷ 0 ∷ 6 ∷ 5 ∷ 6 ∷ 1 ∷ 3 ∷ 1 ∷ 1 ∷ [], begins 0 0 (0 ∷ 0 ∷ 35 ∷ 19 ∷ 1 ∷ 4 ∷ 0 ∷ 0 ∷ 6 ∷ 5 ∷ 6 ∷ 1 ∷ 3 ∷ 1 ∷ 1 ∷ []))
    ∷
    -- Var for ETVar of one name: ^A against B, and ^A against ^B
    apart
    (5 ∷ 0 ∷ 0 ∷ 0 ∷ 2 ∷ 4 ∷ 1 ∷ 2 ∷ 3 ∷ 2 ∷ [], begins 0 0 (0 ∷ 4 ∷ 35 ∷ 1 ∷ 3 ∷ 2 ∷ []))
    (5 ∷ 0 ∷ 0 ∷ 0 ∷ 2 ∷ 4 ∷ 1 ∷ 2 ∷ 4 ∷ 2 ∷ [], begins 0 0 (0 ∷ 4 ∷ 35 ∷ 1 ∷ 4 ∷ 2 ∷ []))
    ∷
    -- types that are no names, exchanged: Int against Bool, and Bool against Int
    apart
    (4 ∷ 0 ∷ 0 ∷ 0 ∷ 1 ∷ 1 ∷ 1 ∷ 2 ∷ [], begins 15 0 (1 ∷ 1 ∷ 1 ∷ 2 ∷ []))
    (4 ∷ 0 ∷ 0 ∷ 0 ∷ 1 ∷ 2 ∷ 1 ∷ 1 ∷ [], begins 15 0 (1 ∷ 2 ∷ 1 ∷ 1 ∷ []))
    ∷
    -- another kind: the literal 1, infer and run_bidirectional
    apart
    (1 ∷ 0 ∷ 0 ∷ 3 ∷ 22 ∷ 1 ∷ 0 ∷ 0 ∷ 0 ∷ [], begins 0 0 (1 ∷ 1 ∷ []))
    (7 ∷ 0 ∷ 0 ∷ 3 ∷ 22 ∷ 1 ∷ 0 ∷ 0 ∷ 0 ∷ [], begins 0 0 (1 ∷ 1 ∷ []))
    ∷
    -- another mode: cases (e) and (f)
    apart
    (2 ∷ 0 ∷ 0 ∷ 6 ∷ 18 ∷ 5 ∷ 2 ∷ 22 ∷ 1 ∷ 0 ∷ 0 ∷ 3 ∷ 5 ∷ 1 ∷ 1 ∷ [], begins 0 0 (0 ∷ 0 ∷ 26 ∷ 19 ∷ []))
    (2 ∷ 1 ∷ 0 ∷ 6 ∷ 18 ∷ 5 ∷ 2 ∷ 22 ∷ 1 ∷ 0 ∷ 0 ∷ 3 ∷ 5 ∷ 1 ∷ 1 ∷ [], begins 17 0 (1 ∷ 2 ∷ 1 ∷ 1 ∷ []))
    ∷
    -- another operator: 1 + 2 and 1 - 2, though the replies are the same
    apart
    (7 ∷ 0 ∷ 0 ∷ 8 ∷ 26 ∷ 1 ∷ 22 ∷ 1 ∷ 0 ∷ 22 ∷ 2 ∷ 0 ∷ 0 ∷ 0 ∷ [], wholly 0 0 31 4 (1 ∷ 1 ∷ 0 ∷ 27 ∷ 8 ∷ 2 ∷ 4 ∷ 0 ∷ 0 ∷ 0 ∷ 0 ∷ 1 ∷ 1 ∷ 17 ∷ 0 ∷ 6 ∷ 0 ∷ 0 ∷ 1 ∷ 1 ∷ 0 ∷ 0 ∷ 17 ∷ 0 ∷ 9 ∷ 0 ∷ 0 ∷ 1 ∷ 1 ∷ 0 ∷ 0 ∷ []))
    (7 ∷ 0 ∷ 0 ∷ 8 ∷ 26 ∷ 2 ∷ 22 ∷ 1 ∷ 0 ∷ 22 ∷ 2 ∷ 0 ∷ 0 ∷ 0 ∷ [], wholly 0 0 31 4 (1 ∷ 1 ∷ 0 ∷ 27 ∷ 8 ∷ 2 ∷ 4 ∷ 0 ∷ 0 ∷ 0 ∷ 0 ∷ 1 ∷ 1 ∷ 17 ∷ 0 ∷ 6 ∷ 0 ∷ 0 ∷ 1 ∷ 1 ∷ 0 ∷ 0 ∷ 17 ∷ 0 ∷ 9 ∷ 0 ∷ 0 ∷ 1 ∷ 1 ∷ 0 ∷ 0 ∷ []))
    ∷
    -- a literal for a variable, in as many words: true, and the variable 1
    apart
    (7 ∷ 0 ∷ 0 ∷ 2 ∷ 23 ∷ 1 ∷ 0 ∷ 0 ∷ [], begins 0 0 (1 ∷ 2 ∷ []))
    (7 ∷ 0 ∷ 0 ∷ 2 ∷ 16 ∷ 1 ∷ 0 ∷ 0 ∷ [], begins 11 1 (0 ∷ 0 ∷ []))
    ∷
    -- a literal for one of another type, and so another count: 1 and true
    apart
    (7 ∷ 0 ∷ 0 ∷ 3 ∷ 22 ∷ 1 ∷ 0 ∷ 0 ∷ 0 ∷ [], begins 0 0 (1 ∷ 1 ∷ []))
    (7 ∷ 0 ∷ 0 ∷ 2 ∷ 23 ∷ 1 ∷ 0 ∷ 0 ∷ [], begins 0 0 (1 ∷ 2 ∷ []))
    ∷
    -- entries in other places: x, where x : Int and y : Bool, and where y : Bool and x : Int
    apart
    (1 ∷ 0 ∷ 6 ∷ 32 ∷ 5 ∷ 1 ∷ 32 ∷ 6 ∷ 2 ∷ 2 ∷ 16 ∷ 5 ∷ 0 ∷ 0 ∷ [], begins 0 0 (1 ∷ 1 ∷ 6 ∷ 32 ∷ 5 ∷ 1 ∷ 32 ∷ 6 ∷ 2 ∷ []))
    (1 ∷ 0 ∷ 6 ∷ 32 ∷ 6 ∷ 2 ∷ 32 ∷ 5 ∷ 1 ∷ 2 ∷ 16 ∷ 5 ∷ 0 ∷ 0 ∷ [], begins 0 0 (1 ∷ 1 ∷ 6 ∷ 32 ∷ 6 ∷ 2 ∷ 32 ∷ 5 ∷ 1 ∷ []))
    ∷
    -- an entry more: 1, and 1 where A
    apart
    (1 ∷ 0 ∷ 0 ∷ 3 ∷ 22 ∷ 1 ∷ 0 ∷ 0 ∷ 0 ∷ [], begins 0 0 (1 ∷ 1 ∷ 0 ∷ []))
    (1 ∷ 0 ∷ 2 ∷ 33 ∷ 1 ∷ 3 ∷ 22 ∷ 1 ∷ 0 ∷ 0 ∷ 0 ∷ [], begins 0 0 (1 ∷ 1 ∷ 2 ∷ []))
    ∷
    -- a fresh name for a written one: ^A against Int, and the first fresh name, which no question may write
    apart
    (5 ∷ 0 ∷ 0 ∷ 0 ∷ 2 ∷ 4 ∷ 1 ∷ 1 ∷ 1 ∷ [], begins 0 0 (0 ∷ 3 ∷ 35 ∷ 1 ∷ 1 ∷ []))
    (5 ∷ 0 ∷ 0 ∷ 0 ∷ 2 ∷ 4 ∷ 1000000 ∷ 1 ∷ 1 ∷ [], begins 5 6 [])
    ∷ []

-- what is computed of a pair, and what the table says of it
computed : Pair → Bool × Says × Says
computed (b, q, q') = (are_alike q.0 q'.0, begun q, begun q')

claimed : Pair → Bool × Says × Says
claimed (b, q, q') = (b, q.1, q'.1)

shown : (p : Pair) → computed p ≡ claimed p → PairHolds p
unfolding computed claimed
shown (b, q, q') e = (rw (ap (λ c. c.0) e) at (decided q.0 q'.0), ap (λ c. c.1) e, ap (λ c. c.2) e)

every : (l : List Pair) → map computed l ≡ map claimed l → All PairHolds l
every [] e = no_pair
every (p ∷ l) e = shown p (cc) ⨾ every l (cc)

pub each_pair : All PairHolds pairs
unfolding pairs computed claimed asked seen deciding_computes reply_computes
each_pair = every pairs refl

-- ## Any literal

plain : 0 ≤ 1
plain = omega arith

-- case (a) with any number for its literal
pub a_literal : (low high budget work room : ℕ)
    → reply budget work room (7 ∷ 0 ∷ 0 ∷ 3 ∷ 22 ∷ 1 ∷ 0 ∷ 0 ∷ 0 ∷ []) ≡ reply budget work room (7 ∷ 0 ∷ 0 ∷ 3 ∷ 22 ∷ low ∷ high ∷ 0 ∷ 0 ∷ [])
a_literal low high =
    no_literal (record {
      labels = _;
      format = IsQuestion.run plain IsExpr.lit_int;
      words = more same (more same (more same (more same (more same (more halves (more halves (more same (more same none))))))));
    })

-- ## Fresh names

-- in two replies a fresh name stands where the same one does, and nowhere else
pub fresh_alone : {P : Pairing} {a b : ℕ} → InReplies P type_name a b → (1_000_000 ≤ a → a ≡ b) × (1_000_000 ≤ b → a ≡ b)
fresh_alone (InReplies.type_names n) = by n
  where
    by : {R : ℕ → ℕ → Type 0} {a b : ℕ} → ReplyName R a b → (1_000_000 ≤ a → a ≡ b) × (1_000_000 ≤ b → a ≡ b)
    by (written n) = (λ h. absurd (omega (arith, n.low)), λ h. absurd (omega (arith, n.low')))
    by (fresh k) = (λ h. refl, λ h. refl)
