-- `read_section` meets its contract.
use Rattle.reading.proofs.Items.{passed}
use Rattle.reading.proofs.Sections.{section_end, section_over, section_empty, section_full, section_entries, section_expr, section_type, section_unknown, expr_fault, type_fault, unknown_fault}
use Rattle.reading.proofs.read_section.Goals as goal

pub returns-in_err-count : goal.returns-in_err-count
returns-in_err-count c = rw (passed c.from_residual.ensures.1) (section_end c.requires c.args.holds c.in_err-count.ensures)

pub returns-then-q-first : goal.returns-then-q-first
returns-then-q-first c = section_over c.requires c.in_ok-count.ensures c.args.holds c.if-q-first.true c.bad_shape.ensures

pub returns-in-Nothing : goal.returns-in-Nothing
returns-in-Nothing c = rw c.in-Nothing.is (section_empty c.requires c.in_ok-count.ensures c.if-count-eq0.true)

pub returns-in-Nothing-2 : goal.returns-in-Nothing-2
returns-in-Nothing-2 c =
    rw c.in-Nothing-2.is (section_full c.requires c.in_ok-count.ensures c.if-count-eq0.false c.bad_shape-in-Nothing-2.ensures)

pub returns-in-Entries : goal.returns-in-Entries
returns-in-Entries c =
    rw c.in-Entries.is (section_entries c.requires c.in_ok-count.ensures c.if-q-first.false c.read_context.ensures)

pub returns-in_err-read_expr-in-Expr : goal.returns-in_err-read_expr-in-Expr
returns-in_err-read_expr-in-Expr c =
    rw (passed c.from_residual-in_err-read_expr-in-Expr.ensures.1, c.in-Expr.is)
    (expr_fault c.requires c.in_ok-count.ensures c.if-q-first.false c.in_err-read_expr-in-Expr.ensures)

pub returns-in_ok-read_expr-in-Expr : goal.returns-in_ok-read_expr-in-Expr
returns-in_ok-read_expr-in-Expr c =
    rw c.in-Expr.is
    (section_expr c.requires c.in_ok-count.ensures c.if-q-first.false c.whole.ensures c.in_ok-read_expr-in-Expr.ensures)

pub returns-in_err-read_type-in-Ty : goal.returns-in_err-read_type-in-Ty
returns-in_err-read_type-in-Ty c =
    rw (passed c.from_residual-in_err-read_type-in-Ty.ensures.1, c.in-Ty.is)
    (type_fault c.requires c.in_ok-count.ensures c.if-q-first.false c.in_err-read_type-in-Ty.ensures)

pub returns-in_ok-read_type-in-Ty : goal.returns-in_ok-read_type-in-Ty
returns-in_ok-read_type-in-Ty c =
    rw c.in-Ty.is
    (section_type c.requires c.in_ok-count.ensures c.if-q-first.false c.whole-in-Ty.ensures c.in_ok-read_type-in-Ty.ensures)

pub returns-in_err-read_unknown-in-ETVar : goal.returns-in_err-read_unknown-in-ETVar
returns-in_err-read_unknown-in-ETVar c =
    rw (passed c.from_residual-in_err-read_unknown-in-ETVar.ensures.1, c.in-ETVar.is)
    (unknown_fault c.requires c.in_ok-count.ensures c.if-q-first.false c.in_err-read_unknown-in-ETVar.ensures)

pub returns-in_ok-read_unknown-in-ETVar : goal.returns-in_ok-read_unknown-in-ETVar
returns-in_ok-read_unknown-in-ETVar c =
    rw c.in-ETVar.is
    (section_unknown c.requires c.in_ok-count.ensures c.if-q-first.false c.whole-in-ETVar.ensures c.in_ok-read_unknown-in-ETVar.ensures)
