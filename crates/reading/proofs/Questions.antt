-- Reading a question: kind, mode, four sections, the end.
use Prim.Native.Nat.{ℕ, ◌≤◌, ◌<◌}
use mathlib.Core.Path.{◌≡◌, refl, sym, ap, ◌∙◌}
use mathlib.Core.List.{List, [], ◌∷◌}
use native.Mathlib.Nat.{le_refl}
use native.Mathlib.Omega.{arith}
use lib.ListN.{length, get_or}
use lib.Seq.{take-length}
use Rattle.definition.specs.Syntax.{pick, Ctx, Judgement, infer, check, infer_app, subtype, inst, on_l, on_r, given}
use Rattle.definition.specs.Question as definition
use Rattle.definition.specs.Question.{Read, got, fault, Reader, next, ◌>>=◌, give, bad_shape, row, end, mode, kind_rows, question, read_question}
use Rattle.layout.specs.Kinds.{kind_number}
use Rattle.layout.specs.declared.Kind.{Kind}
use Rattle.layout.specs.declared.Kind.TheVariants.{Infer, Check, InferApp, Subtype, InstL, InstR, Resolve}
use Rattle.std.specs.Prelude.{Result, Ok, Err}
use Rattle.reading.specs.declared.Refusal.{Refusal}
use Rattle.reading.specs.declared.Refusal.TheVariants.{BadShape, ReservedName}
use Rattle.reading.specs.declared.Fault.{Fault}
use Rattle.reading.specs.declared.Part.{Part}
use Rattle.reading.specs.declared.Holds.{Holds}
use Rattle.reading.specs.declared.Holds.TheVariants.{Nothing}
use Rattle.reading.specs.declared.Mode.{Mode}
use Rattle.reading.specs.declared.Mode.TheVariants.{Plain, Strict}
use Rattle.reading.specs.declared.Question.{Question}
use Rattle.reading.specs.Faults as faults
use Rattle.reading.specs.Faults.{refusal_code, fault_of}
use Rattle.reading.specs.Items as items
use Rattle.reading.specs.Items.{from, Inside, Word}
use Rattle.reading.specs.Contexts.{none, ListTo, Leaves, past, refused}
use Rattle.reading.specs.Sections.{Content, section, ContentAt, nothing_at, entries_at, expr_at, ty_at, etvar_at, SectionRead}
use Rattle.reading.specs.Questions as questions
use Rattle.reading.specs.Questions.{Planned, infers, checks, applies, compares, solves_left, solves_right, runs, ContextAt, AsksAt, infers_at, checks_at, applies_at, compares_at, solves_left_at, solves_right_at, runs_at, judgement, JudgementRead, SectionsRead, ModeIs, plainly, strictly, FaultIn, ReadIs}
use Rattle.reading.proofs.Items.{from_end, one_of_end, one_of_is, one_of_none, reads_fault, within_none, within_is}
use Rattle.reading.proofs.Sections.{end_more}

-- ## Four sections by their plan

-- what a kind's four sections ask
abbrev pub ask : {k : ℕ} {a b c d : Holds} → Planned k a b c d → Content a → Content b → Content c → Content d → Judgement
ask infers Γ e u v = infer Γ e
ask checks Γ e u B = check Γ e B
ask applies Γ e A u = infer_app Γ e A
ask compares Γ u A B = subtype Γ A B
ask solves_left Γ u a B = inst on_l Γ a B
ask solves_right Γ u A b = inst on_r Γ b A
ask runs u e v w = infer [] e

-- the row of a kind reads them
sections : {k : ℕ} {a b c d : Holds} → Planned k a b c d → Reader Judgement
sections {k} {a} {b} {c} {d} pl = do x ← section a; y ← section b; z ← section c; w ← section d; give (ask pl x y z w)

row_is : {k : ℕ} {a b c d : Holds} (pl : Planned k a b c d) → row k kind_rows (bad_shape 0) ≡ sections pl
unfolding row pick kind_rows sections
row_is infers = refl
row_is checks = refl
row_is applies = refl
row_is compares = refl
row_is solves_left = refl
row_is solves_right = refl
row_is runs = refl

-- the answer after the one before: the next section's where that was read, and the same fault where it was not
pub data SectionThen (q : List ℕ) (h : Holds) : Result Part Fault → Result Part Fault → Type 0 where
  on : {x : Part} {r : Result Part Fault} → SectionRead q x.past h r → SectionThen q h (Ok x) r
  off : {f : Fault} → SectionThen q h (Err f) (Err f)

-- what a section left: a place or a number
abbrev value_of : Result Part Fault → ℕ
value_of (Ok x) = x.value
value_of (Err f) = 0

-- all four were read, or the last answer is the first fault
pub data Four (q : List ℕ) {k : ℕ} {a b c d : Holds} (pl : Planned k a b c d) (r r₁ r₂ : Result Part Fault) : Result Part Fault → Read Judgement → Type 0 where
  all : {x : Content a} {y : Content b} {z : Content c} {w : Content d} {i j m : ℕ} {v : Part} → ContentAt q 2 a x (value_of r) i
      → ContentAt q i b y (value_of r₁) j → ContentAt q j c z (value_of r₂) m → ContentAt q m d w v.value v.past → v.past ≤ length q
      → Four q pl r r₁ r₂ (Ok v) (got (ask pl x y z w) v.past (from q v.past (length q)))
  stopped : {f : Fault} → f.at ≤ length q → Four q pl r r₁ r₂ (Err f) (fault_of f)

module _ {q : List ℕ} {k : ℕ} {a b c d : Holds} (pl : Planned k a b c d) where
  four₃ : {x : Content a} {y : Content b} {z : Content c} {i j m : ℕ} {r r₁ r₂ r₃ : Result Part Fault} {o : Read (Content d)} → ContentAt q 2 a x (value_of r) i
      → ContentAt q i b y (value_of r₁) j → ContentAt q j c z (value_of r₂) m → Leaves q (length q) (ContentAt q m d) r₃ o
      → Four q pl r r₁ r₂ r₃ (next o (λ w. give (ask pl x y z w)))
  unfolding next give
  four₃ s t u (past v l) = all s t u v l
  four₃ s t u (refused f) = stopped f

  four₂ : {x : Content a} {y : Content b} {i j : ℕ} {r r₁ r₂ r₃ : Result Part Fault} {o : Read (Content c)} → ContentAt q 2 a x (value_of r) i
      → ContentAt q i b y (value_of r₁) j → Leaves q (length q) (ContentAt q j c) r₂ o → SectionThen q d r₂ r₃
      → Four q pl r r₁ r₂ r₃ (next o (λ z. ◌>>=◌ (section d) (λ w. give (ask pl x y z w))))
  unfolding next ◌>>=◌
  four₂ s t (past u l) (on v) = four₃ s t u v
  four₂ s t (refused f) off = stopped f

  four₁ : {x : Content a} {i : ℕ} {r r₁ r₂ r₃ : Result Part Fault} {o : Read (Content b)} → ContentAt q 2 a x (value_of r) i
      → Leaves q (length q) (ContentAt q i b) r₁ o → SectionThen q c r₁ r₂ → SectionThen q d r₂ r₃
      → Four q pl r r₁ r₂ r₃ (next o (λ y. ◌>>=◌ (section c) (λ z. ◌>>=◌ (section d) (λ w. give (ask pl x y z w)))))
  unfolding next ◌>>=◌
  four₁ s (past t l) (on u) v = four₂ s t u v
  four₁ s (refused f) off off = stopped f

  four₀ : {r r₁ r₂ r₃ : Result Part Fault} {o : Read (Content a)} → Leaves q (length q) (ContentAt q 2 a) r o → SectionThen q b r r₁ → SectionThen q c r₁ r₂
      → SectionThen q d r₂ r₃
      → Four q pl r r₁ r₂ r₃ (next o (λ x. ◌>>=◌ (section b) (λ y. ◌>>=◌ (section c) (λ z. ◌>>=◌ (section d) (λ w. give (ask pl x y z w))))))
  unfolding next ◌>>=◌
  four₀ (past s l) (on t) u v = four₁ s t u v
  four₀ (refused f) off off off = stopped f

  pub four : {r r₁ r₂ r₃ : Result Part Fault} → SectionRead q 2 a r → SectionThen q b r r₁ → SectionThen q c r₁ r₂ → SectionThen q d r₂ r₃
      → Four q pl r r₁ r₂ r₃ (row k kind_rows (bad_shape 0) 2 (from q 2 (length q)))
  unfolding sections ◌>>=◌
  four x y z w = rw (row_is pl) (four₀ x y z w)

-- ## Where the parts stand

there : {q : List ℕ} {Γ : Ctx} {m : ℕ} (x : Question) → x.context ≡ 3 → ListTo q 3 Γ x.entries m → ContextAt q x Γ
there {m = m} x at l = record { past = m; list = rw at l }

no_place : {q : List ℕ} {p n v m : ℕ} → ContentAt q p Nothing n v m → v ≡ 0
no_place nothing_at = refl

bare : {q : List ℕ} {n m : ℕ} (x : Question) → ContentAt q 2 Nothing n x.entries m → ContextAt q x []
bare x s = record { past = x.context; list = record { entries = none; count = no_place s } }

asks : {q : List ℕ} {k : ℕ} {a b c d : Holds} (pl : Planned k a b c d) (x : Question) {f : Content a} {g : Content b} {h : Content c} {e : Content d} {i j m n : ℕ}
    → x.context ≡ 3 → ContentAt q 2 a f x.entries i → ContentAt q i b g x.expr j → ContentAt q j c h x.left m → ContentAt q m d e x.right n
    → AsksAt q x k (ask pl f g h e)
asks infers x at (entries_at l) (expr_at s) t u = infers_at (there x at l) s (no_place t) (no_place u)
asks checks x at (entries_at l) (expr_at s) t (ty_at u) = checks_at (there x at l) s (no_place t) u
asks applies x at (entries_at l) (expr_at s) (ty_at t) u = applies_at (there x at l) s t (no_place u)
asks compares x at (entries_at l) s (ty_at t) (ty_at u) = compares_at (there x at l) (no_place s) t u
asks solves_left x at (entries_at l) s (etvar_at t) (ty_at u) = solves_left_at (there x at l) (no_place s) t u
asks solves_right x at (entries_at l) s (ty_at t) (etvar_at u) = solves_right_at (there x at l) (no_place s) t u
asks runs x at l (expr_at s) t u = runs_at (bare x l) s (no_place t) (no_place u)

-- the input context of what is asked
pub asks_context : {q : List ℕ} {x : Question} {k : ℕ} {j : Judgement} → AsksAt q x k j → ContextAt q x (given j)
unfolding given
asks_context (infers_at c e l r) = c
asks_context (checks_at c e l r) = c
asks_context (applies_at c e l r) = c
asks_context (compares_at c e l r) = c
asks_context (solves_left_at c e l r) = c
asks_context (solves_right_at c e l r) = c
asks_context (runs_at c e l r) = c

-- ## And nothing after them

ended : (q : List ℕ) (j : Judgement) {n : ℕ} → n ≡ length q → next (end n (from q n (length q))) (λ u. give j) ≡ got j (length q) []
unfolding next end give
ended q j h = rw (h, from_end q (length q) (length q) (le_refl (length q)))

module _ {q : List ℕ} {k : Kind} {a b c d : Holds} {pl : Planned (kind_number k) a b c d} {r r₁ r₂ : Result Part Fault} (mode : Mode) where
  pub sections_refused : {f : Fault} → Four q pl r r₁ r₂ (Err f) (row (kind_number k) kind_rows (bad_shape 0) 2 (from q 2 (length q)))
      → SectionsRead q k mode (Err f)
  unfolding ◌>>=◌ next
  sections_refused {f} x = go x
    where
      go : {o : Read Judgement} → Four q pl r r₁ r₂ (Err f) o → JudgementRead q k mode (Err f) (next o (λ j. ◌>>=◌ end (λ u. give j)))
      go (stopped b) = questions.refused b

  module _ {v : Part} (f : Four q pl r r₁ r₂ (Ok v) (row (kind_number k) kind_rows (bad_shape 0) 2 (from q 2 (length q)))) where
    pub sections_more : {z : Fault} → v.past < length q → z ≡ faults.bad_shape v.past → SectionsRead q k mode (Err z)
    unfolding ◌>>=◌ next
    sections_more l is = rw is (go f)
      where
        go : {o : Read Judgement} → Four q pl r r₁ r₂ (Ok v) o
            → JudgementRead q k mode (Err (faults.bad_shape v.past)) (next o (λ j. ◌>>=◌ end (λ u. give j)))
        go (all s t u w le) = rw (end_more q v.past (length q) l (le_refl (length q))) (questions.refused le)

    pub sections_asked : (x : Question) → length q ≤ v.past → x.kind ≡ k → x.mode ≡ mode → x.context ≡ 3
        → x.entries ≡ value_of r → x.expr ≡ value_of r₁ → x.left ≡ value_of r₂ → x.right ≡ v.value → SectionsRead q k mode (Ok x)
    unfolding ◌>>=◌ next
    sections_asked x l kind_is mode_is at e₀ e₁ e₂ e₃ = go f
      where
        go : {o : Read Judgement} → Four q pl r r₁ r₂ (Ok v) o → JudgementRead q k mode (Ok x) (next o (λ j. ◌>>=◌ end (λ u. give j)))
        go (all {x = y} {y = y₁} {z = y₂} {w = y₃} s t u w le) =
            rw (ended q (ask pl y y₁ y₂ y₃) {n = v.past} (omega arith))
            (questions.asked kind_is mode_is (asks pl x at (rw (← e₀) at s) (rw (← e₁) at t) (rw (← e₂) at u) (rw (← e₃) at w)))

-- ## Kind and mode

abbrev asked : ℕ → definition.Mode → Judgement → definition.Question
asked k m j = record { kind = k; manner = m; asks = j }

-- all that follows kind and mode
asking : ℕ → definition.Mode → Reader definition.Question
asking k m = do j ← row k kind_rows (bad_shape 0); u ← end; give (asked k m j)

asking_is : (k : ℕ) (m : definition.Mode) (p : ℕ) (ws : List ℕ) → asking k m p ws ≡ next (judgement k p ws) (λ j. give (asked k m j))
unfolding asking ◌>>=◌ next end give
asking_is k m p ws = go (row k kind_rows (bad_shape 0) p ws)
  where
    go : (o : Read Judgement) → next o (λ j. ◌>>=◌ end (λ u. give (asked k m j))) ≡ next (next o (λ j. ◌>>=◌ end (λ u. give j))) (λ j. give (asked k m j))
    go (got j n []) = refl
    go (got j n (v ∷ vs)) = refl
    go (fault c n) = refl

fault_in : (r : Refusal) {e p : ℕ} → p ≤ e → FaultIn e (refusal_code r) p
fault_in BadShape h = record { least = omega arith; most = omega arith; place = h }
fault_in ReservedName h = record { least = omega arith; most = omega arith; place = h }

-- the mode's number, and the definition's mode
abbrev pub mode_number : Mode → ℕ
mode_number Plain = 0
mode_number Strict = 1

manner_of : (m : Mode) → (μ : definition.Mode) × ModeIs m μ
manner_of Plain = (definition.plain, plainly)
manner_of Strict = (definition.strict, strictly)

kind_small : (k : Kind) → (1 ≤ kind_number k) × (kind_number k ≤ 7)
kind_small Infer = (omega arith, omega arith)
kind_small Check = (omega arith, omega arith)
kind_small InferApp = (omega arith, omega arith)
kind_small Subtype = (omega arith, omega arith)
kind_small InstL = (omega arith, omega arith)
kind_small InstR = (omega arith, omega arith)
kind_small Resolve = (omega arith, omega arith)

module _ (q : List ℕ) (some : 1 ≤ length q) (small : length q ≤ 2048) where
  pub start : Inside q 0 (length q)
  start = record { low = omega arith; high = le_refl (length q); small = small }

  first_word : Word q 0 (length q) (get_or q 0 0)
  first_word = record { inside = some; is = refl }

  -- the question's words are those from 0 to its end
  from_start : read_question q ≡ question 0 (from q 0 (length q))
  unfolding read_question
  from_start = ap (question 0) (sym (take-length q))

  pub kind_bad : {f : Fault} → (1 ≤ get_or q 0 0 → 7 < get_or q 0 0) → f ≡ faults.bad_shape 0 → ReadIs q (Err f)
  unfolding question ◌>>=◌ next
  kind_bad h is =
      let x : items.WithinRead q 0 (length q) 1 7 (Err (faults.bad_shape 0)) = within_none start 1 7 first_word (λ l m. omega (arith, h l)) in
      let e : question 0 (from q 0 (length q)) ≡ fault 4 0 = rw (reads_fault x) in
      rw is (record { is = from_start ∙ e; within = fault_in BadShape start.low })

  module _ (k : Kind) (k-is : kind_number k ≡ get_or q 0 0) where
    -- then the mode
    kind_is : read_question q ≡ next (mode 1 (from q 1 (length q))) (λ m. asking (kind_number k) m)
    unfolding question asking ◌>>=◌ next
    kind_is =
        let s = kind_small k in
        from_start ∙ rw (within_is start 1 7 first_word (omega arith) (omega arith), ← k-is)

    mode_fault : {f : Fault} → mode 1 (from q 1 (length q)) ≡ fault 4 1 → f ≡ faults.bad_shape 1 → ReadIs q (Err f)
    unfolding next
    mode_fault e is =
        rw is (record { is = kind_is ∙ ap (λ o. next o (λ m. asking (kind_number k) m)) e; within = fault_in BadShape some })

    pub mode_end : {f : Fault} → (length q ≤ 1) × (f ≡ faults.bad_shape 1) → ReadIs q (Err f)
    unfolding mode
    mode_end h = mode_fault (one_of_end _ q 1 (length q) h.0) h.1

    module _ {w : ℕ} (x : Word q 1 (length q) w) where
      pub mode_bad : {f : Fault} → 1 < w → f ≡ faults.bad_shape 1 → ReadIs q (Err f)
      unfolding mode
      mode_bad l is = mode_fault (one_of_none _ q 1 (length q) (le_refl (length q)) x ((tt, (λ k. omega arith)), (λ k. omega arith))) is

      mode_is : {m : Mode} {μ : definition.Mode} → w ≡ mode_number m → ModeIs m μ → mode 1 (from q 1 (length q)) ≡ got μ 2 (from q 2 (length q))
      unfolding mode row pick give
      mode_is e plainly = one_of_is _ q 1 (length q) (le_refl (length q)) x e
      mode_is e strictly = one_of_is _ q 1 (length q) (le_refl (length q)) x e

      pub question_read : {m : Mode} {r : Result Question Fault} → w ≡ mode_number m → SectionsRead q k m r → ReadIs q r
      unfolding next give
      question_read {m} {r} e x = go refl x
        where
          μ : definition.Mode
          μ = (manner_of m).0

          all_is : read_question q ≡ next (judgement (kind_number k) 2 (from q 2 (length q))) (λ j. give (asked (kind_number k) μ j))
          all_is = kind_is ∙ rw (mode_is e (manner_of m).1) (asking_is (kind_number k) μ 2 (from q 2 (length q)))

          go : {r : Result Question Fault} {o : Read Judgement} → judgement (kind_number k) 2 (from q 2 (length q)) ≡ o → JudgementRead q k m r o → ReadIs q r
          go y (questions.asked {x = a} {j = j} kind_is mode_is s) = record {
            asked = asked (kind_number k) μ j;
            is = all_is ∙ ap (λ o. next o (λ j. give (asked (kind_number k) μ j))) y;
            kind = ap kind_number kind_is;
            mode = rw mode_is (manner_of m).1;
            asks = s;
          }
          go y (questions.refused {f = f} b) = record {
            is = all_is ∙ ap (λ o. next o (λ j. give (asked (kind_number k) μ j))) y;
            within = fault_in f.why b;
          }
