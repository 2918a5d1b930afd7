-- Demand 3: questions that are alike get replies that are alike, and no reply depends on a literal's value.
use mathlib.Core.Path.{◌≡◌, refl, sym, ap, ap₂, ◌∙◌}
use Prim.Native.Nat.{ℕ, ◌≤◌}
use native.Mathlib.Omega.{arith}
use native.Mathlib.Nat.{not-suc-le-zero}
use mathlib.Core.Bool.{◌||◌}
use mathlib.Core.List.{List, [], ◌∷◌, cons-ne-nil}
use lib.ListN.{length}
use lib.Dec.{eqb, ltb}
use Rattle.definition.specs.Syntax.{pick}
use Rattle.definition.specs.Question.{Read, Question, read_question}
use Rattle.definition.specs.Reply.{Reply, reply}
use Rattle.definition.specs.Memory.{Call, call, report_after, work_after}
use Rattle.alike.specs.Alike.{Pairing, itself, Label, IsReport, ReplyName, written, fresh, InReplies, Each, none, more, AlikeQuestions, AlikeReplies, AlikeCalls, WellFormed}
use Rattle.alike.proofs.Related.{pick_r}
use Rattle.alike.proofs.Words.{same_length}
use Rattle.alike.proofs.Readers.{GotR, got_r}
use Rattle.alike.proofs.Reading.{QuestionR, read_question_r}
use Rattle.alike.proofs.Replies.{refusal_r, read_reply_r}

-- both are well-formed; and WellFormed has that every well-formed question is alike itself
pub well_formed : {P : Pairing} {ws ws' : List ℕ} → AlikeQuestions P ws ws' → WellFormed ws × WellFormed ws'
well_formed h = both refl refl (read_question_r h)
  where
    both : {P : Pairing} {ws ws' : List ℕ} {o o' : Read Question} → read_question ws ≡ o → read_question ws' ≡ o'
        → GotR (QuestionR P) [] [] o o' → WellFormed ws × WellFormed ws'
    both e e' (got_r {a = q} {a' = q'} {q = p} w) =
        (record { question = q; place = p; read = e }, record { question = q'; place = p; read = e' })

-- with the same budget, work and room; the mode is a word of the question
pub alike : {P : Pairing} {ws ws' : List ℕ} → AlikeQuestions P ws ws' → (budget work room : ℕ)
    → AlikeReplies P (reply budget work room ws) (reply budget work room ws')
unfolding reply
alike {P} h budget work room =
    pick_r (AlikeReplies P) refl (refusal_r 1 0 (omega arith) (omega arith) (unfold pick in InReplies.same))
    (pick_r (AlikeReplies P) refl (refusal_r 2 0 (omega arith) (omega arith) (unfold pick in InReplies.same))
    (pick_r (AlikeReplies P) (ap (λ n. eqb n 0 || ltb 2048 n) (same_length h.words)) (refusal_r 3 0 (omega arith) (omega arith) (unfold pick in InReplies.same))
    (read_reply_r budget room (read_question_r h))))

-- ## The whole call

pub calls_alike : {P : Pairing} {ws ws' : List ℕ} → AlikeQuestions P ws ws' → (budget : ℕ) (work slice : List ℕ)
    → AlikeCalls P (call budget ws work slice) (call budget ws' work slice)
unfolding call report_after work_after
calls_alike h budget work slice =
    let a = alike h budget (length work) (length slice) in
    record { answered = a; rest = _; report_slice = refl; report_slice' = rw (same_length a.report.words); work_slice = rw a.code }

-- no report on 1 to 7, and so the same slices, whatever the names
nothing : {c : ℕ} {s : List Label} → IsReport c s → 1 ≤ c → c ≤ 7 → s ≡ []
nothing (IsReport.result A Γ t) h k = absurd (not-suc-le-zero h)
nothing (IsReport.empty h k) h' k' = refl
nothing (IsReport.error l A B) h k = absurd (omega arith)

no_words : {R : Label → ℕ → ℕ → Type 0} {s : List Label} {u u' : List ℕ} → s ≡ [] → Each R s u u' → (u ≡ []) × (u' ≡ [])
no_words e none = (refl, refl)
no_words e (more x w) = absurd (cons-ne-nil _ _ e)

pub refused_same : {P : Pairing} {c c' : Call} → AlikeCalls P c c' → 1 ≤ c.answered.code → c.answered.code ≤ 7 → c.report_slice ≡ c'.report_slice
refused_same a h k =
    let r = a.answered.report in
    let w = no_words (nothing r.format h k) r.words in
    a.report_slice ∙ rw (w.0, w.1) refl ∙ sym a.report_slice'

-- ## Literals

same_name : {a b : ℕ} → ReplyName (λ a b. a ≡ b) a b → a ≡ b
same_name (written n) = n.paired
same_name (fresh k) = refl

same_word : {k : Label} {w w' : ℕ} → InReplies itself k w w' → w ≡ w'
same_word InReplies.same = refl
same_word (InReplies.variables x) = x.paired
same_word (InReplies.type_names a) = same_name a

same_words : {s : List Label} {u u' : List ℕ} → Each (InReplies itself) s u u' → u ≡ u'
same_words none = refl
same_words (more x e) = ap₂ ◌∷◌ (same_word x) (same_words e)

same_parts : {c c' a a' l l' u u' : ℕ} {w w' : List ℕ} → c ≡ c' → a ≡ a' → l ≡ l' → u ≡ u' → w ≡ w'
    → ◌≡◌ {A = Reply}
    (record { code = c; at = a; len = l; units = u; report = w })
    (record { code = c'; at = a'; len = l'; units = u'; report = w' })
same_parts p q r s t = rw (p, q, r, s, t)

-- "No such reply depends on a literal's value": questions that differ in literals alone get the same reply
pub no_literal : {ws ws' : List ℕ} → AlikeQuestions itself ws ws' → (budget work room : ℕ)
    → reply budget work room ws ≡ reply budget work room ws'
no_literal h budget work room =
    let a = alike h budget work room in
    same_parts a.code (same_word a.at) a.len a.units (same_words a.report.words)

pub no_literal_call : {ws ws' : List ℕ} → AlikeQuestions itself ws ws' → (budget : ℕ) (work slice : List ℕ)
    → call budget ws work slice ≡ call budget ws' work slice
unfolding call
no_literal_call h budget work slice = rw (no_literal h budget (length work) (length slice))
