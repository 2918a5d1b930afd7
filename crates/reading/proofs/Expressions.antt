-- Reading an expression, code by code.
use Prim.Native.Nat.{ℕ, ◌+◌, ◌≤◌, ◌<◌}
use mathlib.Core.Path.{◌≡◌, refl, ap, ◌∙◌}
use mathlib.Core.List.{List}
use native.Mathlib.Nat.{le_refl}
use native.Mathlib.Decide.{dec_le}
use native.Mathlib.Omega.{arith}
use lib.ListN.{get_or}
use Rattle.definition.specs.Syntax.{pick, Expr, evar, app, abs, tapp, tabs, ann, lit_int, lit_bool, let_in, if_then_else, bin_op}
use Rattle.definition.specs.Question as definition
use Rattle.definition.specs.Question.{Reader, fault, next, ◌>>=◌, give, any, row, expr_rows, expression}
use Rattle.layout.specs.Places.{evar_at, app_at, abs_at, tapp_at, tabs_at, ann_at, lit_int_at, lit_bool_at, let_in_at, if_then_else_at, bin_op_at}
use Rattle.std.specs.Prelude.{Result, Ok, Err}
use Rattle.reading.specs.declared.Fault.{Fault}
use Rattle.reading.specs.Faults.{bad_shape}
use Rattle.reading.specs.Items.{from, Inside, ExprTo, past, refused, Word, NameRead, WithinRead, ExprRead}
use Rattle.reading.proofs.Depth.{expression_eq}
use Rattle.reading.proofs.Items.{TypeThen, ExprThen, one_or, one_of_end, one_of_is, one_of_none, reads_at, reads_map, reads_two, reads_three, code_at, after_word, variable_read, type_name_read, any_end, any_is}

pub expr_end : {q : List ℕ} {p e : ℕ} {f : Fault} → Inside q p e → (e ≤ p) × (f ≡ bad_shape p) → ExprRead q p e (Err f)
expr_end {q} {p} {e} i h = rw h.1 (reads_at (expression_eq p _ ∙ one_of_end _ q p e h.0) (refused i.low))

module _ {q : List ℕ} {p e : ℕ} (i : Inside q p e) {w : ℕ} (h : Word q p e w) where
  -- the row of the code that stands at p
  expr_row : {k : ℕ} → w ≡ k → expression p (from q p e) ≡ row k (expr_rows p expression) (definition.bad_shape p) (p + 1) (from q (p + 1) e)
  expr_row k = expression_eq p _ ∙ one_of_is _ q p e i.high h k

  -- ## What begins with a name

  module _ {r : Result ℕ Fault} (x : NameRead q (p + 1) e r) where
    pub expr_var : w ≡ 16 → ExprRead q p e r
    unfolding row pick expr_rows ◌>>=◌
    expr_var k =
        reads_at (expr_row k)
        (reads_map (evar p) (λ y m s. record { at = evar_at (code_at i h k) s.at; to = omega arith }) (variable_read x))

    pub expr_abs : {r' r'' : Result ℕ Fault} → w ≡ 18 → TypeThen q e r r' → ExprThen q e r' r'' → ExprRead q p e r''
    unfolding row pick expr_rows ◌>>=◌
    expr_abs k y z =
        reads_at (expr_row k)
        (reads_three (abs p)
        (λ v A f j m n s t u. record { at = abs_at (code_at i h k) s.at (rw (after_word p s) at t.at) (omega arith) u.at; to = omega arith })
        (variable_read x) y z)

    pub expr_tabs : {r' : Result ℕ Fault} → w ≡ 20 → ExprThen q e r r' → ExprRead q p e r'
    unfolding row pick expr_rows ◌>>=◌
    expr_tabs k y =
        reads_at (expr_row k)
        (reads_two (tabs p)
        (λ a f j m s t. record { at = tabs_at (code_at i h k) s.at (rw (after_word p s) at t.at); to = omega arith })
        (type_name_read x) y)

    pub expr_let : {r' r'' : Result ℕ Fault} → w ≡ 24 → ExprThen q e r r' → ExprThen q e r' r'' → ExprRead q p e r''
    unfolding row pick expr_rows ◌>>=◌
    expr_let k y z =
        reads_at (expr_row k)
        (reads_three (let_in p)
        (λ v f g j m n s t u. record { at = let_in_at (code_at i h k) s.at (rw (after_word p s) at t.at) (omega arith) u.at; to = omega arith })
        (variable_read x) y z)

  -- ## What begins with an expression

  module _ {r : Result ℕ Fault} (x : ExprRead q (p + 1) e r) where
    pub expr_app : {r' : Result ℕ Fault} → w ≡ 17 → ExprThen q e r r' → ExprRead q p e r'
    unfolding row pick expr_rows ◌>>=◌
    expr_app k y =
        reads_at (expr_row k)
        (reads_two (app p)
        (λ f g m n s t. record { at = app_at (code_at i h k) s.at s.to t.at; to = omega arith }) x y)

    expr_tapp : {r' : Result ℕ Fault} → w ≡ 19 → TypeThen q e r r' → ExprRead q p e r'
    unfolding row pick expr_rows ◌>>=◌
    expr_tapp k y =
        reads_at (expr_row k)
        (reads_two (tapp p)
        (λ f A m n s t. record { at = tapp_at (code_at i h k) s.at s.to t.at; to = omega arith }) x y)

    expr_ann : {r' : Result ℕ Fault} → w ≡ 21 → TypeThen q e r r' → ExprRead q p e r'
    unfolding row pick expr_rows ◌>>=◌
    expr_ann k y =
        reads_at (expr_row k)
        (reads_two (ann p)
        (λ f A m n s t. record { at = ann_at (code_at i h k) s.at s.to t.at; to = omega arith }) x y)

    pub expr_typed : {r' : Result ℕ Fault} → ((w ≡ 19 → ⊥) → w ≡ 21) → TypeThen q e r r' → ExprRead q p e r'
    expr_typed k y = one_or k (λ k. expr_tapp k y) (λ k. expr_ann k y)

    pub expr_if : {r' r'' : Result ℕ Fault} → w ≡ 25 → ExprThen q e r r' → ExprThen q e r' r'' → ExprRead q p e r''
    unfolding row pick expr_rows ◌>>=◌
    expr_if k y z =
        reads_at (expr_row k)
        (reads_three (if_then_else p)
        (λ f g g' j m n s t u. record { at = if_then_else_at (code_at i h k) s.at s.to t.at t.to u.at; to = omega arith }) x y z)

  -- ## What begins with a number

  pub expr_bool : {r : Result ℕ Fault} → w ≡ 23 → WithinRead q (p + 1) e 0 1 r → ExprRead q p e r
  unfolding row pick expr_rows ◌>>=◌
  expr_bool k x =
      reads_at (expr_row k)
      (reads_map (lit_bool p) (λ b m s. record { at = lit_bool_at (code_at i h k) s.word.at; to = omega arith }) x)

  pub expr_op : {r r' r'' : Result ℕ Fault} → w ≡ 26 → WithinRead q (p + 1) e 1 12 r → ExprThen q e r r' → ExprThen q e r' r'' → ExprRead q p e r''
  unfolding row pick expr_rows ◌>>=◌
  expr_op k x y z =
      reads_at (expr_row k)
      (reads_three (bin_op p)
      (λ o f g j m n s t u. record {
        at = bin_op_at (code_at i h k) s.word.at s.least s.most (rw (after_word p s.word) at t.at) (omega arith) u.at;
        to = omega arith;
      }) x y z)

  -- two words
  halves : Reader Expr
  halves = do l ← any; m ← any; give (lit_int p l m)

  expr_halves : w ≡ 22 → expression p (from q p e) ≡ halves (p + 1) (from q (p + 1) e)
  unfolding row pick expr_rows halves
  expr_halves k = expr_row k

  pub expr_int : w ≡ 22 → p + 3 ≤ e → ExprRead q p e (Ok (p + 3))
  unfolding halves ◌>>=◌ next give
  expr_int k l =
      let a : p + 1 + 1 ≡ p + 2 = omega arith in
      let b : p + 2 + 1 ≡ p + 3 = omega arith in
      let s : ExprTo q p (lit_int p (get_or q (p + 1) 0) (get_or q (p + 2) 0)) (p + 3) = record {
        at = lit_int_at (code_at i h k) (record { within = omega arith; is = refl }) (record { within = omega arith; is = refl });
        to = refl;
      } in
      reads_at (expr_halves k) (rw (any_is q (p + 1) e (omega arith) i.high, a, any_is q (p + 2) e (omega arith) i.high, b) (past s l))

  pub expr_short : {f : Fault} → w ≡ 22 → e < p + 3 → f ≡ bad_shape e → ExprRead q p e (Err f)
  unfolding halves ◌>>=◌ next
  expr_short k l is =
      let short : halves (p + 1) (from q (p + 1) e) ≡ fault 4 e = elim (dec_le e (p + 1)) [
        | yes m ↦ let a : p + 1 ≡ e = omega arith in rw (any_end q (p + 1) e m) (ap (fault 4) a)
        | no m ↦
            let a : p + 1 + 1 ≡ e = omega arith in
            rw (any_is q (p + 1) e (omega arith) i.high, any_end q (p + 1 + 1) e (omega arith)) (ap (fault 4) a)
      ] in
      rw is (reads_at (expr_halves k ∙ short) (refused (le_refl e)))

  pub expr_none : {f : Fault} → (16 ≤ w → 26 < w) → f ≡ bad_shape p → ExprRead q p e (Err f)
  unfolding expr_rows
  expr_none n k =
      rw k
      (reads_at (expression_eq p _ ∙ one_of_none _ q p e i.high h
      ((
        (
          (
            (
              (
                ((((((tt, (λ k. omega arith)), (λ k. omega arith)), (λ k. omega arith)), (λ k. omega arith)), (λ k. omega arith)), (λ k. omega arith)),
                (λ k. omega arith),
              ),
              (λ k. omega arith),
            ),
            (λ k. omega arith),
          ),
          (λ k. omega arith),
        ),
        (λ k. omega arith),
      )))
      (refused i.low))
