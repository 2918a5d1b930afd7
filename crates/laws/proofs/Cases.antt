-- What is computed from the definition: the fifteen questions of document 01 with their replies, as one table under one theorem; order 2's, as
-- another; document 01's edges; what no question shows; memory after each code; the telephone host.
use mathlib.Core.Path.{◌≡◌, refl}
use mathlib.Core.Bool.{Bool, true, false, not, ◌&&◌}
use Prim.Native.Nat.{ℕ, zero, suc, ◌+◌, ◌*◌, ◌≤◌, ◌<◌, min}
use native.Mathlib.Omega.{arith}
use mathlib.Core.List.{List, [], ◌∷◌, ◌++◌, map}
use lib.ListN.{length, take, drop, replicate}
use lib.Dec.{T, leb}
use mir.Facts.{yes_leb, no_leb}
use Rattle.definition.specs.Syntax.{pick, TmVar, TyVar, Ty, ty_words, section, no_section, ty_section, int, bool, var, etvar, arrow, forall, evar, app, abs, tapp, tabs, ann, lit_int, lit_bool, let_in, if_then_else, bin_op, var_bnd, tvar_bnd, etvar_bnd, setvar_bnd, mark, on_l, instantiation_error}
use Rattle.definition.specs.Run.{fail}
use Rattle.definition.specs.Contexts.{binding_key, kind_of}
use Rattle.definition.specs.Types.{is_mono}
use Rattle.definition.specs.Question.{plain}
use Rattle.definition.specs.Rules.{outside, ty_code, expr_code, solve}
use Rattle.definition.specs.Reply.{Reply, refusal, reported, out_reply, reply, reply_computes}
use Rattle.definition.specs.Memory.{Call, call, memory_computes}
use Rattle.definition.specs.Host.{HostCall, words_of, bytes_of, host_call, host_computes}

-- what document 01 says of a reply: all of it, or code, at, and how the report begins
pub data Says : Type 0 where
  wholly : ℕ → ℕ → ℕ → ℕ → List ℕ → Says
  begins : ℕ → ℕ → List ℕ → Says

-- a budget, a question, and what is said of its reply with enough work and 4,096 words of room
abbrev pub Case : Type 0
Case = ℕ × List ℕ × Says

unfoldable pub asked : Case → Reply
asked c = reply c.0 (32 * c.0 + 4096) 4096 c.1

-- as much of a reply as is said
unfoldable pub seen : Reply → Says → Says
seen r (wholly c a l u ws) = wholly r.code r.at r.len r.units r.report
seen r (begins c a ws) = begins r.code r.at (take (length ws) r.report)

unfoldable pub cases : List Case
cases =
    -- (a)
    (384, 7 ∷ 0 ∷ 0 ∷ 3 ∷ 22 ∷ 1 ∷ 0 ∷ 0 ∷ 0 ∷ [], wholly 0 0 13 2 (1 ∷ 1 ∷ 0 ∷ 9 ∷ 2 ∷ 0 ∷ 4 ∷ 0 ∷ 0 ∷ 0 ∷ 0 ∷ 1 ∷ 1 ∷ []))
    ∷  -- (b)
    (28, 7 ∷ 0 ∷ 0 ∷ 5 ∷ 18 ∷ 5 ∷ 1 ∷ 16 ∷ 5 ∷ 0 ∷ 0 ∷ [], wholly 0 0 108 28 (3 ∷ 5 ∷ 1 ∷ 1 ∷ 3 ∷ 35 ∷ 1000000 ∷ 1 ∷ 99 ∷ 4 ∷ 1 ∷ 4 ∷ 0 ∷ 0 ∷ 0 ∷ 3 ∷ 35 ∷ 1000000 ∷ 1 ∷ 4 ∷ 5 ∷ 1 ∷ 4 ∷ 1000000 ∷ 21 ∷ 2 ∷ 7 ∷ 5 ∷ 32 ∷ 5 ∷ 1 ∷ 34 ∷ 1000000 ∷ 0 ∷ 2 ∷ 4 ∷ 1000000 ∷ 6 ∷ 32 ∷ 5 ∷ 1 ∷ 35 ∷ 1000000 ∷ 1 ∷ 0 ∷ 1 ∷ 0 ∷ 7 ∷ 5 ∷ 32 ∷ 5 ∷ 1 ∷ 34 ∷ 1000000 ∷ 0 ∷ 0 ∷ 5 ∷ 32 ∷ 5 ∷ 1 ∷ 34 ∷ 1000000 ∷ 1 ∷ 1 ∷ 29 ∷ 1 ∷ 0 ∷ 5 ∷ 32 ∷ 5 ∷ 1 ∷ 34 ∷ 1000000 ∷ 1 ∷ 1 ∷ 2 ∷ 4 ∷ 1000000 ∷ 6 ∷ 32 ∷ 5 ∷ 1 ∷ 35 ∷ 1000000 ∷ 1 ∷ 0 ∷ 34 ∷ 0 ∷ 0 ∷ 5 ∷ 32 ∷ 5 ∷ 1 ∷ 34 ∷ 1000000 ∷ 1 ∷ 1 ∷ 2 ∷ 4 ∷ 1000000 ∷ 6 ∷ 32 ∷ 5 ∷ 1 ∷ 35 ∷ 1000000 ∷ 1 ∷ 0 ∷ []))
    ∷  -- (b, one less)
    (27, 7 ∷ 0 ∷ 0 ∷ 5 ∷ 18 ∷ 5 ∷ 1 ∷ 16 ∷ 5 ∷ 0 ∷ 0 ∷ [], wholly 6 0 0 27 ([]))
    ∷  -- (c)
    (384, 7 ∷ 0 ∷ 0 ∷ 11 ∷ 18 ∷ 5 ∷ 1 ∷ 17 ∷ 18 ∷ 6 ∷ 1 ∷ 16 ∷ 6 ∷ 16 ∷ 5 ∷ 0 ∷ 0 ∷ [], begins 11 5 (0 ∷ 0 ∷ []))
    ∷  -- (d)
    (384, 7 ∷ 0 ∷ 0 ∷ 8 ∷ 18 ∷ 5 ∷ 1 ∷ 18 ∷ 5 ∷ 2 ∷ 16 ∷ 5 ∷ 0 ∷ 0 ∷ [], begins 0 0 (5 ∷ 5 ∷ 1 ∷ 5 ∷ 2 ∷ 1 ∷ []))
    ∷  -- (e)
    (384, 2 ∷ 0 ∷ 0 ∷ 6 ∷ 18 ∷ 5 ∷ 2 ∷ 22 ∷ 1 ∷ 0 ∷ 0 ∷ 3 ∷ 5 ∷ 1 ∷ 1 ∷ [], begins 0 0 (0 ∷ []))
    ∷  -- (f)
    (384, 2 ∷ 1 ∷ 0 ∷ 6 ∷ 18 ∷ 5 ∷ 2 ∷ 22 ∷ 1 ∷ 0 ∷ 0 ∷ 3 ∷ 5 ∷ 1 ∷ 1 ∷ [], begins 17 0 (1 ∷ 2 ∷ 1 ∷ 1 ∷ []))
    ∷  -- (g)
    (384, 7 ∷ 0 ∷ 0 ∷ 8 ∷ 20 ∷ 1 ∷ 18 ∷ 5 ∷ 3 ∷ 1 ∷ 16 ∷ 5 ∷ 0 ∷ 0 ∷ [], begins 0 0 (7 ∷ 6 ∷ 1 ∷ 5 ∷ 3 ∷ 1 ∷ 3 ∷ 1 ∷ []))
    ∷  -- (h)
    (384, 7 ∷ 0 ∷ 0 ∷ 10 ∷ 19 ∷ 20 ∷ 1 ∷ 18 ∷ 5 ∷ 3 ∷ 1 ∷ 16 ∷ 5 ∷ 1 ∷ 0 ∷ 0 ∷ [], begins 0 0 (3 ∷ 5 ∷ 1 ∷ 1 ∷ []))
    ∷  -- (i)
    (384, 7 ∷ 0 ∷ 0 ∷ 5 ∷ 19 ∷ 22 ∷ 1 ∷ 0 ∷ 1 ∷ 0 ∷ 0 ∷ [], begins 13 0 (1 ∷ 1 ∷ 0 ∷ []))
    ∷  -- (j)
    (384, 7 ∷ 0 ∷ 0 ∷ 7 ∷ 17 ∷ 22 ∷ 1 ∷ 0 ∷ 22 ∷ 2 ∷ 0 ∷ 0 ∷ 0 ∷ [], begins 12 0 (1 ∷ 1 ∷ 0 ∷ []))
    ∷  -- (k)
    (384, 7 ∷ 0 ∷ 0 ∷ 8 ∷ 25 ∷ 23 ∷ 1 ∷ 22 ∷ 1 ∷ 0 ∷ 23 ∷ 1 ∷ 0 ∷ 0 ∷ [], begins 15 0 (1 ∷ 1 ∷ 1 ∷ 2 ∷ []))
    ∷  -- (l)
    (384, 7 ∷ 0 ∷ 0 ∷ 13 ∷ 25 ∷ 23 ∷ 1 ∷ 18 ∷ 5 ∷ 1 ∷ 16 ∷ 5 ∷ 18 ∷ 5 ∷ 1 ∷ 23 ∷ 1 ∷ 0 ∷ 0 ∷ [], begins 0 0 (3 ∷ 5 ∷ 1 ∷ 1 ∷ []))
    ∷  -- (m)
    (384, 7 ∷ 1 ∷ 0 ∷ 13 ∷ 25 ∷ 23 ∷ 1 ∷ 18 ∷ 5 ∷ 1 ∷ 16 ∷ 5 ∷ 18 ∷ 5 ∷ 1 ∷ 23 ∷ 1 ∷ 0 ∷ 0 ∷ [], begins 15 0 (1 ∷ 1 ∷ 1 ∷ 2 ∷ []))
    ∷  -- (n)
    (384, 4 ∷ 0 ∷ 0 ∷ 0 ∷ 7 ∷ 6 ∷ 1 ∷ 5 ∷ 3 ∷ 1 ∷ 3 ∷ 1 ∷ 3 ∷ 5 ∷ 1 ∷ 2 ∷ [], begins 0 0 (0 ∷ 3 ∷ 35 ∷ 1 ∷ 2 ∷ []))
    ∷  -- (o)
    (384, 5 ∷ 0 ∷ 0 ∷ 0 ∷ 2 ∷ 4 ∷ 1 ∷ 2 ∷ 3 ∷ 1 ∷ [], begins 14 1 (2 ∷ 3 ∷ 1 ∷ 0 ∷ []))
    ∷ []

pub fifteen : map (λ c. seen (asked c) c.2) cases ≡ map (λ c. c.2) cases
unfolding cases asked seen reply_computes
fifteen = refl

-- ---- Order 2, as one table beside the fifteen: fun x:A. 1 against P to Int, strict, among the entries that the words Γ spell

unfoldable pub lambda : ℕ → List ℕ → Ty → Ty → List ℕ
lambda mode Γ A P = 2 ∷ mode ∷ section Γ ++ (section (18 ∷ 5 ∷ ty_words A ++ 22 ∷ 1 ∷ 0 ∷ []) ++ (no_section ++ ty_section (arrow P int)))

-- A is accepted for P; or 17 shows A as written and P as the context leaves it
unfoldable pub equal : List ℕ → Ty → Ty → Case
equal Γ A P = (384, lambda 1 Γ A P, begins 0 0 (0 ∷ []))

unfoldable pub unequal : List ℕ → Ty → Ty → Ty → Case
unequal Γ A P P' = (384, lambda 1 Γ A P, begins 17 0 (ty_section A ++ ty_section P'))

-- the Var, the ETVar and the Forall of a number
unfoldable pub v : ℕ → Ty
v n = var (record { number = n })

unfoldable pub u : ℕ → Ty
u n = etvar (record { number = n })

unfoldable pub all : ℕ → Ty → Ty
all n A = forall (record { number = n }) A

-- all A. A to A, for the letter of a number
unfoldable pub identity : ℕ → Ty
identity n = all n (arrow (v n) (v n))

unfoldable pub letter_cases : List Case
letter_cases =
    -- the order's own example, at its 8 units, with one less, and in plain mode, where nothing is applied
    (8, lambda 1 [] (identity 1) (identity 2), wholly 0 0 47 8 (0 ∷ 0 ∷ 44 ∷ 19 ∷ 1 ∷ 4 ∷ 0 ∷ 0 ∷ 9 ∷ 5 ∷ 6 ∷ 2 ∷ 5 ∷ 3 ∷ 2 ∷ 3 ∷ 2 ∷ 1 ∷ 0 ∷ 0 ∷ 17 ∷ 0 ∷ 13 ∷ 9 ∷ 32 ∷ 5 ∷ 6 ∷ 2 ∷ 5 ∷ 3 ∷ 2 ∷ 3 ∷ 2 ∷ 0 ∷ 1 ∷ 1 ∷ 9 ∷ 32 ∷ 5 ∷ 6 ∷ 2 ∷ 5 ∷ 3 ∷ 2 ∷ 3 ∷ 2 ∷ 0 ∷ []))
    ∷ (7, lambda 1 [] (identity 1) (identity 2), wholly 6 0 0 7 [])
    ∷ (384, lambda 0 [] (identity 1) (identity 2), wholly 0 0 47 4 (0 ∷ 0 ∷ 44 ∷ 19 ∷ 1 ∷ 4 ∷ 0 ∷ 0 ∷ 9 ∷ 5 ∷ 6 ∷ 2 ∷ 5 ∷ 3 ∷ 2 ∷ 3 ∷ 2 ∷ 1 ∷ 0 ∷ 0 ∷ 17 ∷ 0 ∷ 13 ∷ 9 ∷ 32 ∷ 5 ∷ 6 ∷ 2 ∷ 5 ∷ 3 ∷ 2 ∷ 3 ∷ 2 ∷ 0 ∷ 1 ∷ 1 ∷ 9 ∷ 32 ∷ 5 ∷ 6 ∷ 2 ∷ 5 ∷ 3 ∷ 2 ∷ 3 ∷ 2 ∷ 0 ∷ []))
    ∷  -- "a bound name is not a free one of the same number", on either side
    unequal [] (all 1 (v 1)) (all 2 (v 1)) (all 2 (v 1))
    ∷ unequal [] (all 2 (v 1)) (all 1 (v 1)) (all 1 (v 1))
    ∷ unequal [] (all 1 (arrow (v 1) (v 2))) (identity 2) (identity 2)
    ∷ unequal [] (identity 2) (all 1 (arrow (v 1) (v 2))) (all 1 (arrow (v 1) (v 2)))
    ∷  -- a free one keeps its number: beside a bound one, and where a Forall has ended
    unequal [] (v 1) (v 2) (v 2)
    ∷ equal [] (all 1 (arrow (v 1) (v 3))) (all 2 (arrow (v 2) (v 3)))
    ∷ unequal [] (all 1 (arrow (v 1) (v 3))) (all 2 (arrow (v 2) (v 4))) (all 2 (arrow (v 2) (v 4)))
    ∷ equal [] (arrow (all 1 (v 1)) (v 1)) (arrow (all 2 (v 2)) (v 1))
    ∷ unequal [] (arrow (all 1 (v 1)) (v 1)) (arrow (all 2 (v 2)) (v 2)) (arrow (all 2 (v 2)) (v 2))
    ∷  -- a Forall that binds nothing is a Forall
    equal [] (all 1 int) (all 2 int)
    ∷ unequal [] (all 1 int) int int
    ∷  -- "Var is not ETVar", and no Forall binds an ETVar
    unequal [] (v 1) (u 1) (u 1)
    ∷ unequal [] (all 1 (v 1)) (all 1 (u 1)) (all 1 (u 1))
    ∷ unequal [] (all 1 (u 1)) (all 1 (v 1)) (all 1 (v 1))
    ∷ equal [] (all 1 (u 1)) (all 2 (u 1))
    ∷ unequal [] (all 1 (u 1)) (all 2 (u 2)) (all 2 (u 2))
    ∷  -- shadowing: the innermost Forall binds, on either side
    equal [] (all 1 (all 1 (v 1))) (all 1 (all 2 (v 2)))
    ∷ unequal [] (all 1 (all 1 (v 1))) (all 1 (all 2 (v 1))) (all 1 (all 2 (v 1)))
    ∷ unequal [] (all 1 (all 2 (v 1))) (all 1 (all 1 (v 1))) (all 1 (all 1 (v 1)))
    ∷  -- nested Foralls exchanged, with their names and without
    equal [] (all 1 (all 2 (arrow (v 1) (v 2)))) (all 2 (all 1 (arrow (v 2) (v 1))))
    ∷ unequal [] (all 1 (all 2 (arrow (v 1) (v 2)))) (all 2 (all 1 (arrow (v 1) (v 2)))) (all 2 (all 1 (arrow (v 1) (v 2))))
    ∷  -- equal shapes with one deep difference, or none
    equal [] (all 1 (arrow (identity 2) (arrow int (arrow bool (v 1))))) (all 3 (arrow (identity 3) (arrow int (arrow bool (v 3)))))
    ∷ unequal [] (all 1 (arrow (identity 2) (arrow int (arrow bool (v 1))))) (all 3 (arrow (identity 3) (arrow int (arrow bool (v 1)))))
    (all 3 (arrow (identity 3) (arrow int (arrow bool (v 1)))))
    ∷  -- a solved unknown under a Forall: compared is what application leaves, which puts ^C's B under the Forall of its letter
    equal (35 ∷ 3 ∷ ty_words (v 2)) (all 1 (v 1)) (all 2 (u 3))
    ∷ unequal (35 ∷ 3 ∷ ty_words (v 4)) (all 1 (v 1)) (all 2 (u 3)) (all 2 (v 4))
    ∷ equal (35 ∷ 3 ∷ ty_words (identity 4)) (all 1 (arrow (identity 1) (v 1))) (all 2 (arrow (u 3) (v 2)))
    ∷  -- against all A. A to Int: ChkAll has opened that Forall, and A is free
    (384, 2 ∷ 1 ∷ 0 ∷ 7 ∷ 18 ∷ 5 ∷ 3 ∷ 2 ∷ 22 ∷ 1 ∷ 0 ∷ 0 ∷ 6 ∷ 6 ∷ 1 ∷ 5 ∷ 3 ∷ 1 ∷ 1 ∷ [], begins 17 0 (2 ∷ 3 ∷ 2 ∷ 2 ∷ 3 ∷ 1 ∷ []))
    ∷ []

pub other_letters : map (λ c. seen (asked c) c.2) letter_cases ≡ map (λ c. c.2) letter_cases
unfolding letter_cases lambda equal unequal v u all identity asked seen reply_computes
other_letters = refl

-- Document 01's edges 999,999 and 1,000,000 (the third, a solution that leads back to itself, is in Endless); one word of room less; 1, 2, 3
-- in that order; 2,048 and 2,049 words
pub edges :
    (reply 384 16384 4096 (7 ∷ 0 ∷ 0 ∷ 2 ∷ 16 ∷ 999_999 ∷ 0 ∷ 0 ∷ [])
    ≡ record { code = 11; at = 999_999; len = 2; units = 1; report = 0 ∷ 0 ∷ [] })
    × (reply 384 16384 4096 (7 ∷ 0 ∷ 0 ∷ 2 ∷ 16 ∷ 1_000_000 ∷ 0 ∷ 0 ∷ []) ≡ refusal 5 5 0)
    × (reply 28 4992 107 (7 ∷ 0 ∷ 0 ∷ 5 ∷ 18 ∷ 5 ∷ 1 ∷ 16 ∷ 5 ∷ 0 ∷ 0 ∷ [])
    ≡ record { code = 7; at = 0; len = 108; units = 28; report = [] })
    × (reply 28 4991 4096 [] ≡ refusal 2 0 0)
    × (reply 0 0 0 [] ≡ refusal 1 0 0)
    × (reply 8193 300000 0 [] ≡ refusal 1 0 0)
    × (reply 1 4128 0 [] ≡ refusal 3 0 0)
    × (reply 1 4128 0 (replicate 2048 0) ≡ refusal 4 0 0)
    × (reply 1 4128 0 (replicate 2049 0) ≡ refusal 3 0 0)
unfolding reply_computes
edges = (refl, refl, refl, refl, refl, refl, refl, refl, refl)

-- A report of more than 4,294,967,295 words is 7 with that length, however long the slice is; one of just so many that the slice can
-- hold is written. (No list so long can be computed.)
pub lengths :
    (room c p u : ℕ) (ws : List ℕ)
    → (4_294_967_295 < length ws → reported room c p u ws ≡ record { code = 7; at = 0; len = 4_294_967_295; units = u; report = [] })
    × (length ws ≡ 4_294_967_295 → length ws ≤ room
    → reported room c p u ws ≡ record { code = c; at = p; len = length ws; units = u; report = ws })
unfolding reported pick
lengths room c p u ws = (past, whole)
  where
    neither : (a b : Bool) → T (not b) → (a && b) ≡ false
    neither a true t = absurd t
    neither true false t = refl
    neither false false t = refl

    both : (a b : Bool) → T a → T b → (a && b) ≡ true
    both true true t s = refl
    both true false t s = absurd s
    both false b t s = absurd t

    past : 4_294_967_295 < length ws → reported room c p u ws ≡ record { code = 7; at = 0; len = 4_294_967_295; units = u; report = [] }
    past h =
        let e : min (length ws) 4_294_967_295 ≡ 4_294_967_295 = omega arith in
        rw (neither (leb (length ws) room) (leb (length ws) 4_294_967_295) (no_leb h), e) refl

    whole : length ws ≡ 4_294_967_295 → length ws ≤ room → reported room c p u ws ≡ record { code = c; at = p; len = length ws; units = u; report = ws }
    whole h k =
        let l : length ws ≤ 4_294_967_295 = omega arith in
        rw (both (leb (length ws) room) (leb (length ws) 4_294_967_295) (yes_leb k) (yes_leb l)) refl

-- ---- What no question shows

-- the names 1 and 2
abbrev a₁ : TyVar
a₁ = record { number = 1 }

abbrev a₂ : TyVar
a₂ = record { number = 2 }

abbrev x₁ : TmVar
x₁ = record { number = 1 }

-- a rule's first test by a code goes by these numbers, which document 01 has for types, expressions and entries
pub codes :
    (map ty_code (int ∷ bool ∷ var a₁ ∷ etvar a₁ ∷ arrow int int ∷ forall a₁ int ∷ []) ≡ 1 ∷ 2 ∷ 3 ∷ 4 ∷ 5 ∷ 6 ∷ [])
    × (map expr_code
    (evar 0 x₁
    ∷ app 0 (lit_bool 0 0) (lit_bool 0 0)
    ∷ abs 0 x₁ int (lit_bool 0 0)
    ∷ tapp 0 (lit_bool 0 0) int
    ∷ tabs 0 a₁ (lit_bool 0 0)
    ∷ ann 0 (lit_bool 0 0) int
    ∷ lit_int 0 0 0
    ∷ lit_bool 0 0
    ∷ let_in 0 x₁ (lit_bool 0 0) (lit_bool 0 0)
    ∷ if_then_else 0 (lit_bool 0 0) (lit_bool 0 0) (lit_bool 0 0)
    ∷ bin_op 0 1 (lit_bool 0 0) (lit_bool 0 0)
    ∷ [])
    ≡ 16 ∷ 17 ∷ 18 ∷ 19 ∷ 20 ∷ 21 ∷ 22 ∷ 23 ∷ 24 ∷ 25 ∷ 26 ∷ [])
    × (map (λ b. kind_of (binding_key b)) (var_bnd x₁ int ∷ tvar_bnd a₁ ∷ etvar_bnd a₁ ∷ setvar_bnd a₁ int ∷ mark a₁ ∷ []) ≡ 32 ∷ 33 ∷ 34 ∷ 35 ∷ 36 ∷ [])
unfolding reply_computes
codes = (refl, refl, refl)

-- is_mono is asked of Int, Bool, Var and ETVar alone, so that nothing is 16; it is 000's all the same
pub mono :
    (map is_mono (int ∷ bool ∷ var a₁ ∷ etvar a₁ ∷ arrow int int ∷ arrow (forall a₁ int) int ∷ arrow int (forall a₁ int) ∷ forall a₁ int ∷ [])
    ≡ true ∷ true ∷ true ∷ true ∷ true ∷ false ∷ false ∷ false ∷ [])
    × (solve (outside plain) on_l [] a₂ (forall a₁ bool) 5 0 ≡ fail (instantiation_error a₂ (forall a₁ bool)) 5)
    × (out_reply 5 9 6 (fail (instantiation_error a₂ (forall a₁ bool)) 5)
    ≡ record { code = 16; at = 2; len = 5; units = 4; report = 3 ∷ 6 ∷ 1 ∷ 2 ∷ 0 ∷ [] })
unfolding reply_computes
mono = (refl, refl, refl)

-- ---- Memory

-- case (a), which has 2 units and a report of 13 words
unfoldable pub literal : List ℕ
literal = 7 ∷ 0 ∷ 0 ∷ 3 ∷ 22 ∷ 1 ∷ 0 ∷ 0 ∷ 0 ∷ []

-- a call on work that is full of 3, and what it leaves: the code, work's first word, its words from a place on, and the report slice
unfoldable pub leaves : ℕ → List ℕ → ℕ → List ℕ → ℕ → List ℕ
leaves budget question work slice n =
    let c : Call = call budget question (replicate work 3) slice in
    c.answered.code ∷ take 1 c.work_slice ++ (drop n c.work_slice ++ c.report_slice)

-- 1 to 5 leave both slices; 6 and 7 zero the first 32 x budget + 4,096 words of work alone, and leave the report slice; 0 and 11 zero them
-- too, and write their report alone
pub memory :
    (call 0 [] (7 ∷ 8 ∷ []) (9 ∷ []) ≡ record { answered = refusal 1 0 0; report_slice = 9 ∷ []; work_slice = 7 ∷ 8 ∷ [] })
    × (leaves 2 literal 4159 (9 ∷ []) 4157 ≡ 2 ∷ 3 ∷ 3 ∷ 3 ∷ 9 ∷ [])
    × (leaves 1 [] 4129 (9 ∷ []) 4127 ≡ 3 ∷ 3 ∷ 3 ∷ 3 ∷ 9 ∷ [])
    × (leaves 1 (7 ∷ 0 ∷ []) 4129 (9 ∷ []) 4127 ≡ 4 ∷ 3 ∷ 3 ∷ 3 ∷ 9 ∷ [])
    × (leaves 1 (7 ∷ 0 ∷ 0 ∷ 2 ∷ 16 ∷ 1_000_000 ∷ 0 ∷ 0 ∷ []) 4129 (9 ∷ []) 4127 ≡ 5 ∷ 3 ∷ 3 ∷ 3 ∷ 9 ∷ [])
    × (leaves 1 literal 4130 (replicate 13 9) 4127 ≡ 6 ∷ 0 ∷ 0 ∷ 3 ∷ 3 ∷ replicate 13 9)
    × (leaves 2 literal 4162 (replicate 12 9) 4159 ≡ 7 ∷ 0 ∷ 0 ∷ 3 ∷ 3 ∷ replicate 12 9)
    × (leaves 2 literal 4162 (replicate 15 9) 4159 ≡ 0 ∷ 0 ∷ 0 ∷ 3 ∷ 3 ∷ 1 ∷ 1 ∷ 0 ∷ 9 ∷ 2 ∷ 0 ∷ 4 ∷ 0 ∷ 0 ∷ 0 ∷ 0 ∷ 1 ∷ 1 ∷ 9 ∷ 9 ∷ [])
    × (leaves 1 (7 ∷ 0 ∷ 0 ∷ 2 ∷ 16 ∷ 5 ∷ 0 ∷ 0 ∷ []) 4130 (9 ∷ 9 ∷ 9 ∷ []) 4127 ≡ 11 ∷ 0 ∷ 0 ∷ 3 ∷ 3 ∷ 0 ∷ 0 ∷ 9 ∷ [])
unfolding leaves literal memory_computes
memory = (refl, refl, refl, refl, refl, refl, refl, refl, refl)

-- ---- The telephone host

-- words as bytes, the lowest first, and back; bytes past the words that are asked for are not read
pub little_endian :
    (words_of (4 ∷ 3 ∷ 2 ∷ 1 ∷ 255 ∷ 255 ∷ 255 ∷ 255 ∷ 9 ∷ []) 2 ≡ 16_909_060 ∷ 4_294_967_295 ∷ [])
    × (bytes_of (16_909_060 ∷ 4_294_967_295 ∷ []) ≡ 4 ∷ 3 ∷ 2 ∷ 1 ∷ 255 ∷ 255 ∷ 255 ∷ 255 ∷ [])
    × (bytes_of (256 ∷ 65_536 ∷ 16_777_216 ∷ []) ≡ 0 ∷ 1 ∷ 0 ∷ 0 ∷ 0 ∷ 0 ∷ 1 ∷ 0 ∷ 0 ∷ 0 ∷ 0 ∷ 1 ∷ [])
unfolding host_computes
little_endian = (refl, refl, refl)

-- case (a) with a reply of some bytes
unfoldable pub phoned : ℕ → HostCall
phoned n = host_call (bytes_of literal) (replicate n 9)

-- the bytes of four numbers below 256
unfoldable pub small : ℕ → ℕ → ℕ → ℕ → List ℕ
small c a l u = bytes_of (c ∷ a ∷ l ∷ u ∷ [])

-- "a reply under 16 bytes returns 8 before all else and writes nothing", also where the question is not whole words; "A question that isn't
-- whole words is BadLength"; no room for the report, one byte too few, just enough, one and three more: "bytes past the report stay"
pub telephone :
    (host_call (7 ∷ []) (replicate 15 9) ≡ record { returns = 8; reply_slice = replicate 15 9 })
    × (phoned 15 ≡ record { returns = 8; reply_slice = replicate 15 9 })
    × (host_call [] (replicate 16 9) ≡ record { returns = 3; reply_slice = small 3 0 0 0 })
    × (host_call (7 ∷ []) (replicate 17 9) ≡ record { returns = 3; reply_slice = small 3 0 0 0 ++ 9 ∷ [] })
    × (host_call (bytes_of literal ++ 0 ∷ []) (replicate 68 9) ≡ record { returns = 3; reply_slice = small 3 0 0 0 ++ replicate 52 9 })
    × (phoned 16 ≡ record { returns = 7; reply_slice = small 7 0 13 2 })
    × (phoned 67 ≡ record { returns = 7; reply_slice = small 7 0 13 2 ++ replicate 51 9 })
    × (phoned 68 ≡ record { returns = 0; reply_slice = small 0 0 13 2 ++ bytes_of (1 ∷ 1 ∷ 0 ∷ 9 ∷ 2 ∷ 0 ∷ 4 ∷ 0 ∷ 0 ∷ 0 ∷ 0 ∷ 1 ∷ 1 ∷ []) })
    × (drop 60 (phoned 69).reply_slice ≡ 1 ∷ 0 ∷ 0 ∷ 0 ∷ 1 ∷ 0 ∷ 0 ∷ 0 ∷ 9 ∷ [])
    × (drop 64 (phoned 71).reply_slice ≡ 1 ∷ 0 ∷ 0 ∷ 0 ∷ 9 ∷ 9 ∷ 9 ∷ [])
    × (host_call (bytes_of (7 ∷ 0 ∷ 0 ∷ 2 ∷ 16 ∷ 500_000 ∷ 0 ∷ 0 ∷ [])) (replicate 24 9)
    ≡ record { returns = 11; reply_slice = bytes_of (11 ∷ 500_000 ∷ 2 ∷ 1 ∷ 0 ∷ 0 ∷ []) })
unfolding phoned small literal host_computes
telephone = (refl, refl, refl, refl, refl, refl, refl, refl, refl, refl, refl)

-- n times Int →, then what follows Int
unfoldable pub arrows : ℕ → List ℕ → List ℕ
arrows zero ws = 1 ∷ ws
arrows (suc n) ws = 5 ∷ 1 ∷ arrows n ws

-- what the telephone host returns to a question, with room for n words
unfoldable pub returned : ℕ → List ℕ → ℕ
returned n question = (host_call (bytes_of question) (replicate (16 + 4 * n) 9)).returns

-- "with the desk program's sizes": a report of 4,096 words is written, one of 4,097 is not, however long the reply; 384 units are given, and
-- 385 are not
pub desk_sizes :
    (returned 4096 (2 ∷ 0 ∷ 50 ∷ 32 ∷ 1 ∷ arrows 22 (32 ∷ 2 ∷ 1 ∷ 44 ∷ 25 ∷ 23 ∷ 1 ∷ 21 ∷ 26 ∷ 1 ∷ 25 ∷ 23 ∷ 1 ∷ 25 ∷ 23 ∷ 1 ∷ 21 ∷ 26 ∷ 1 ∷ 26 ∷ 1 ∷ 21 ∷ 21 ∷ 22 ∷ 1 ∷ 0 ∷ 1 ∷ 1 ∷ 22 ∷ 1 ∷ 0 ∷ 22 ∷ 1 ∷ 0 ∷ 1 ∷ 22 ∷ 1 ∷ 0 ∷ 22 ∷ 1 ∷ 0 ∷ 22 ∷ 1 ∷ 0 ∷ 1 ∷ 22 ∷ 1 ∷ 0 ∷ 0 ∷ 1 ∷ 1 ∷ [])) ≡ 0)
    × (returned 4097 (1 ∷ 0 ∷ 79 ∷ 32 ∷ 1 ∷ arrows 37 (33 ∷ 7 ∷ 29 ∷ 21 ∷ 21 ∷ 26 ∷ 1 ∷ 26 ∷ 1 ∷ 26 ∷ 1 ∷ 26 ∷ 1 ∷ 21 ∷ 22 ∷ 1 ∷ 0 ∷ 1 ∷ 22 ∷ 1 ∷ 0 ∷ 22 ∷ 1 ∷ 0 ∷ 22 ∷ 1 ∷ 0 ∷ 22 ∷ 1 ∷ 0 ∷ 1 ∷ 1 ∷ 0 ∷ 0 ∷ [])) ≡ 7)
    × (returned 1347 (6 ∷ 0 ∷ 24 ∷ 34 ∷ 2 ∷ 34 ∷ 1 ∷ 34 ∷ 2 ∷ 34 ∷ 2 ∷ 33 ∷ 1 ∷ 34 ∷ 3 ∷ 34 ∷ 4 ∷ 34 ∷ 4 ∷ 32 ∷ 2 ∷ 5 ∷ 1 ∷ 4 ∷ 1 ∷ 34 ∷ 3 ∷ 0 ∷ 13 ∷ 5 ∷ 5 ∷ 5 ∷ 2 ∷ 2 ∷ 1 ∷ 5 ∷ 1 ∷ 5 ∷ 1 ∷ 6 ∷ 1 ∷ 1 ∷ 2 ∷ 4 ∷ 999999 ∷ []) ≡ 0)
    × (returned 0 (7 ∷ 1 ∷ 0 ∷ 30 ∷ 17 ∷ 17 ∷ 18 ∷ 1 ∷ 2 ∷ 18 ∷ 4 ∷ 2 ∷ 22 ∷ 58 ∷ 0 ∷ 17 ∷ 18 ∷ 1 ∷ 1 ∷ 23 ∷ 0 ∷ 22 ∷ 53 ∷ 0 ∷ 21 ∷ 21 ∷ 26 ∷ 6 ∷ 23 ∷ 0 ∷ 23 ∷ 0 ∷ 2 ∷ 2 ∷ 0 ∷ 0 ∷ []) ≡ 6)
unfolding returned arrows host_computes
desk_sizes = (refl, refl, refl, refl)
