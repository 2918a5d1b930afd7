-- What each section holds, by how the run came out.
use Rattle.std.specs.Prelude.{List, [], ℕ, take}
use Rattle.definition.specs.Syntax.{pick, ty_words, ctx_words, tree_words, Shown, no_type, one_type, two_types, TypeError}
use Rattle.definition.specs.Run.{Out, done, fail, stop}
use Rattle.definition.specs.Rules.{Result}
use Rattle.definition.specs.Reply.{Reply, gives_type}
use Rattle.definition.specs.Memory.{report_after}
use Rattle.sections.specs.declared.Section.{Section}
use Rattle.sections.specs.declared.Section.TheVariants.{Ty, Context, Tree, First, Second}
use Rattle.sections.specs.Sections.{part_of}

-- "On 0 the report has three sections, each after its count: type (count 0 for kinds 2, 4, 5, 6), context, tree."
unfoldable pub of_result : ℕ → Result → Section → List ℕ
of_result kind r Ty = pick (gives_type kind) (ty_words r.0) []
of_result kind r Context = ctx_words r.1
of_result kind r Tree = tree_words r.2
of_result kind r First = []
of_result kind r Second = []

-- "A type error's report is two type sections: actual or ty in the first, or left and right; an unused one has count 0."
unfoldable pub first_of : Shown → List ℕ
first_of no_type = []
first_of (one_type A) = ty_words A
first_of (two_types A B) = ty_words A

unfoldable pub second_of : Shown → List ℕ
second_of no_type = []
second_of (one_type A) = []
second_of (two_types A B) = ty_words B

unfoldable pub of_error : TypeError → Section → List ℕ
of_error e Ty = []
of_error e Context = []
of_error e Tree = []
of_error e First = first_of e.shown
of_error e Second = second_of e.shown

-- "6 stops the run where it occurs", and there is no report
unfoldable pub of_outcome : ℕ → Out Result → Section → List ℕ
of_outcome kind (done r left fresh) x = of_result kind r x
of_outcome kind (fail e left) x = of_error e x
of_outcome kind stop x = []

-- what is handed out after a call with the reply R, whose report slice was s before
abbrev pub handed : Section → Reply → List ℕ → List ℕ
handed x R s = part_of x R.code (take R.len (report_after R s))
