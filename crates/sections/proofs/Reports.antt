-- What is handed out of the report slice, for every reply of the definition: the sections of its report, by how the run came out.
use mathlib.Core.Path.{◌≡◌, refl, sym, ap, ◌∙◌}
use mathlib.Core.Bool.{Bool, true, false, ◌&&◌}
use mathlib.Core.List.{List, [], ◌∷◌, ◌++◌, map, append_assoc, append-nil}
use Prim.Native.Nat.{ℕ, zero, suc, ◌+◌, ◌-◌, ◌≤◌, ◌<◌, min}
use native.Mathlib.Omega.{arith}
use lib.ListN.{length, get_or, take, drop, length-append, length-take, length-drop}
use lib.Seq.{take_at, take-suc, take-nil, drop-nil, drop-append_seam, split_at}
use lib.Dec.{eqb, leb}
use borrow.Author.Tests.{le-leb, ne_eqb, eqb-true}
use Rattle.definition.specs.Syntax.{pick, section, no_section, ty_section, ctx_section, ty_words, ctx_words, tree_words, Error, Shown, no_type, one_type, two_types, TypeError}
use Rattle.definition.specs.Run.{Out, done, fail, stop}
use Rattle.definition.specs.Rules.{Result}
use Rattle.definition.specs.Reply.{Reply, most, refusal, reported, error_code, last_error, error_at, error_words, gives_type, result_words, out_reply, reply}
use Rattle.definition.specs.Memory.{report_after, memory_computes}
use Rattle.laws.proofs.Steps.{pick_true, pick_false}
use Rattle.laws.proofs.Codes.{error, not_seven}
use Rattle.replies.proofs.Lengths.{LengthTold, replies}
use Rattle.sections.specs.declared.Section.{Section}
use Rattle.sections.specs.declared.Section.TheVariants.{Ty, Context, Tree, First, Second}
use Rattle.sections.specs.Sections.{bounds_at, bounds_of, section_of, is_error, has_section, order_of, part_of, sections_compute}
use Rattle.sections.specs.Outcomes.{of_result, first_of, second_of, of_error, of_outcome, handed}
use Rattle.sections.proofs.Sections.{bounds_there, words_there}

-- ## Sections one after the other

joined : List (List ℕ) → List ℕ
joined [] = []
joined (ws ∷ wss) = section ws ++ joined wss

joined_append : (xss yss : List (List ℕ)) → joined (xss ++ yss) ≡ joined xss ++ joined yss
unfolding joined
joined_append [] yss = refl
joined_append (xs ∷ xss) yss = rw (joined_append xss yss) (sym (append_assoc (section xs) (joined xss) (joined yss)))

module _ (wss : List (List ℕ)) where
  -- the words before section k
  before : ℕ → List ℕ
  before k = joined (take k wss)

  part_at : (k : ℕ) → k < length wss → drop (length (before k)) (joined wss) ≡ section (get_or wss k []) ++ joined (drop (suc k) wss)
  unfolding joined before
  part_at k h =
      ap (drop (length (before k))) (ap joined (split_at wss k [] h) ∙ joined_append (take k wss) (get_or wss k [] ∷ drop (suc k) wss))
      ∙ drop-append_seam (before k) (section (get_or wss k []) ++ joined (drop (suc k) wss))

  length_before : (k : ℕ) → k < length wss → length (before k) + 1 + length (get_or wss k []) ≡ length (before (suc k))
  unfolding joined before section
  length_before k h = sym (ap (λ (l : List (List ℕ)). length (joined l)) (take-suc wss k [] h) ∙ ap length (joined_append (take k wss) (get_or wss k [] ∷ []))
      ∙ length-append (joined (take k wss)) (joined (get_or wss k [] ∷ [])) ∙ omega (arith, length-append (get_or wss k []) []))

  bounds_in : (k : ℕ) → k < length wss → bounds_at (joined wss) (length (before k)) ≡ (length (before k) + 1, length (before k) + 1 + length (get_or wss k []))
  bounds_in k h = bounds_there (joined wss) (get_or wss k []) _ (length (before k)) (part_at k h)

  bounds_are : (k : ℕ) → k < length wss → bounds_of k (joined wss) ≡ (length (before k) + 1, length (before k) + 1 + length (get_or wss k []))
  unfolding bounds_of before joined
  bounds_are zero h = bounds_in zero h
  bounds_are (suc k) h = rw (bounds_are k (omega arith), length_before k (omega arith)) (bounds_in (suc k) h)

  section_is : (k : ℕ) → k < length wss → section_of k (joined wss) ≡ get_or wss k []
  unfolding section_of
  section_is k h = rw (bounds_are k h) (words_there (joined wss) (get_or wss k []) _ (length (before k)) (part_at k h))

-- ## Where there is none

none_of : (k : ℕ) → section_of k [] ≡ []
unfolding section_of
none_of k = rw (drop-nil, take-nil)

nothing_in : (x : Section) (c : ℕ) → part_of x c [] ≡ []
unfolding part_of pick
nothing_in x c = go (has_section x c)
  where
    go : (b : Bool) → pick b (section_of (order_of x) []) [] ≡ []
    go true = none_of (order_of x)
    go false = refl

-- NoRoom's length is the needed one: nothing of what stands in the slice is handed out
none_on_seven : (x : Section) (ws : List ℕ) → part_of x 7 ws ≡ []
unfolding part_of pick
none_on_seven Ty ws = refl
none_on_seven Context ws = refl
none_on_seven Tree ws = refl
none_on_seven First ws = refl
none_on_seven Second ws = refl

-- so the length counts only on the other codes
pub written_only : (x : Section) (c n : ℕ) (ws : List ℕ) → part_of x c (take n ws) ≡ part_of x c (take (pick (eqb c 7) 0 n) ws)
unfolding pick
written_only x c n ws = go (eqb c 7) (eqb-true c 7)
  where
    go : (b : Bool) → (b ≡ true → c ≡ 7) → part_of x c (take n ws) ≡ part_of x c (take (pick b 0 n) ws)
    go true h = rw (h refl) (none_on_seven x (take n ws) ∙ sym (none_on_seven x []))
    go false h = refl

-- a section is no longer than the slice
pub part_short : (x : Section) (c n : ℕ) (ws : List ℕ) → length (part_of x c (take n ws)) ≤ length ws
unfolding part_of section_of pick
part_short x c n ws = go (has_section x c)
  where
    b : ℕ × ℕ
    b = bounds_of (order_of x) (take n ws)

    go : (h : Bool) → length (pick h (take (b.1 - b.0) (drop b.0 (take n ws))) []) ≤ length ws
    go true = simp (length-take, length-drop) (omega arith)
    go false = omega arith

-- ## What stood in the slice before never shows

of_report : {room : ℕ} {R : Reply} → LengthTold room R → (x : Section) (s : List ℕ) → handed x R s ≡ part_of x R.code R.report
unfolding report_after
of_report {R = R} m x s = written_only x R.code R.len _ ∙ ap (part_of x R.code) (take_at R.report _ _ m.many)

pub every_reply : (budget work room : ℕ) (q : List ℕ) (x : Section) (s : List ℕ)
    → handed x (reply budget work room q) s ≡ part_of x (reply budget work room q).code (reply budget work room q).report
every_reply budget work room q x s = of_report (replies budget work room q) x s

-- ## By how the run came out

result_joined : (k : ℕ) (r : Result) → result_words k r ≡ joined (of_result k r Ty ∷ of_result k r Context ∷ of_result k r Tree ∷ [])
unfolding result_words of_result joined ty_section ctx_section no_section section pick
result_joined k r = go (gives_type k)
  where
    go : (b : Bool) → pick b (section (ty_words r.0)) (0 ∷ []) ++ (section (ctx_words r.1) ++ section (tree_words r.2))
        ≡ section (pick b (ty_words r.0) []) ++ (section (ctx_words r.1) ++ (section (tree_words r.2) ++ []))
    go true = rw append-nil
    go false = rw append-nil

error_joined : (h : Shown) → error_words h ≡ joined (first_of h ∷ second_of h ∷ [])
unfolding error_words first_of second_of joined ty_section no_section section
error_joined no_type = refl
error_joined (one_type A) = refl
error_joined (two_types A B) = rw append-nil

of_result_lem : (k : ℕ) (r : Result) (x : Section) → part_of x 0 (result_words k r) ≡ of_result k r x
unfolding part_of pick of_result
of_result_lem k r Ty = rw (result_joined k r) (section_is _ 0 (omega arith))
of_result_lem k r Context = rw (result_joined k r) (section_is _ 1 (omega arith))
of_result_lem k r Tree = rw (result_joined k r) (section_is _ 2 (omega arith))
of_result_lem k r First = refl
of_result_lem k r Second = refl

not_zero : (e : Error) → eqb (error_code e) 0 ≡ false
not_zero e = ne_eqb (error_code e) 0 (λ h. omega (arith, (error e).least, h))

is_error_lem : (e : Error) → is_error (error_code e) ≡ true
is_error_lem e = rw (le-leb 11 (error_code e) (error e).least, le-leb (error_code e) last_error (error e).most)

of_error_lem : (e : TypeError) (x : Section) → part_of x (error_code e.error) (error_words e.shown) ≡ of_error e x
unfolding part_of of_error
of_error_lem e Ty = pick_false _ _ (not_zero e.error)
of_error_lem e Context = pick_false _ _ (not_zero e.error)
of_error_lem e Tree = pick_false _ _ (not_zero e.error)
of_error_lem e First = pick_true _ _ (is_error_lem e.error) ∙ rw (error_joined e.shown) (section_is _ 0 (omega arith))
of_error_lem e Second = pick_true _ _ (is_error_lem e.error) ∙ rw (error_joined e.shown) (section_is _ 1 (omega arith))

-- a report that was written, or NoRoom in its place
of_reported : (room c p u : ℕ) (ws : List ℕ) {vs : List ℕ} (x : Section) (s : List ℕ) → eqb c 7 ≡ false → part_of x c ws ≡ vs
    → handed x (reported room c p u ws) s ≡ pick (eqb (reported room c p u ws).code 7) [] vs
unfolding reported pick report_after
of_reported room c p u ws {vs} x s e h = go (leb (length ws) room && leb (length ws) most)
  where
    R : Bool → Reply
    R b = pick b (record { code = c; at = p; len = length ws; units = u; report = ws }) (record { code = 7; at = 0; len = min (length ws) most; units = u; report = [] })

    go : (b : Bool) → handed x (R b) s ≡ pick (eqb (R b).code 7) [] vs
    go true = ap (part_of x c) (take_at ws _ (length ws) refl) ∙ h ∙ sym (pick_false [] vs e)
    go false = none_on_seven x _

-- "Length is 0 on 1 to 6": nothing after a refusal
pub after_refusal : (c p u : ℕ) (x : Section) (s : List ℕ) → handed x (refusal c p u) s ≡ []
unfolding refusal
after_refusal c p u x s = nothing_in x c

-- after a run, what its outcome has of the section; nothing where there was no room for the report
pub every_outcome : (k budget room : ℕ) (o : Out Result) (x : Section) (s : List ℕ)
    → handed x (out_reply k budget room o) s ≡ pick (eqb (out_reply k budget room o).code 7) [] (of_outcome k o x)
unfolding out_reply of_outcome refusal pick
every_outcome k budget room (done r l n) x s = of_reported room 0 0 (budget - l) (result_words k r) x s refl (of_result_lem k r x)
every_outcome k budget room (fail e l) x s =
    of_reported room (error_code e.error) (error_at e.about) (budget - l) (error_words e.shown) x s (not_seven (error e.error)) (of_error_lem e x)
every_outcome k budget room stop x s = after_refusal 6 0 budget x s

-- ## Computed: all five, in a slice that held other words before

abbrev five : Reply → List (List ℕ)
five R = map (λ (x : Section). handed x R (1 ∷ 8 ∷ 1 ∷ 8 ∷ 1 ∷ 8 ∷ [])) (Ty ∷ Context ∷ Tree ∷ First ∷ Second ∷ [])

abbrev case_a : ℕ → Reply
case_a room = reply 384 16384 room (7 ∷ 0 ∷ 0 ∷ 3 ∷ 22 ∷ 1 ∷ 0 ∷ 0 ∷ 0 ∷ [])

abbrev case_k : ℕ → Reply
case_k room = reply 384 16384 room (7 ∷ 0 ∷ 0 ∷ 8 ∷ 25 ∷ 23 ∷ 1 ∷ 22 ∷ 1 ∷ 0 ∷ 23 ∷ 1 ∷ 0 ∷ 0 ∷ [])

-- case (a) has a type, no context and a tree; no room for it, and it has none; case (k) has its two types, "15, Int, Bool"
pub computed : (five (case_a 13) ≡ (1 ∷ []) ∷ [] ∷ (2 ∷ 0 ∷ 4 ∷ 0 ∷ 0 ∷ 0 ∷ 0 ∷ 1 ∷ 1 ∷ []) ∷ [] ∷ [] ∷ [])
    × (five (case_a 12) ≡ [] ∷ [] ∷ [] ∷ [] ∷ [] ∷ []) × (five (case_k 4) ≡ [] ∷ [] ∷ [] ∷ (1 ∷ []) ∷ (2 ∷ []) ∷ [])
unfolding sections_compute memory_computes
computed = (refl, refl, refl)
