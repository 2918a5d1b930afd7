-- Writing a node, step by step as the program goes: what each part needs, and what was written in the end.
use mathlib.Core.Path.{◌∙◌}
use mathlib.Core.List.{List}
use Prim.Native.Nat.{ℕ}
use Rattle.writing.specs.declared.Standing.{Standing}
use Rattle.writing.specs.Spelling.{◌Then◌, AfterCount, Writable, Writes}
use Rattle.writing.specs.Types.{OfPart}
use Rattle.writing.specs.Contexts.{OfContext}
use Rattle.writing.specs.After.{Stands, WritesAfter}
use Rattle.writing.proofs.Spelling.{just_room, writable_as, writable_first, writable_next, writes_as, writes_then}
use Rattle.writing.proofs.After.{stands_next}
use Rattle.report.specs.declared.Node.{Node}
use Rattle.report.specs.Nodes.{NodeRead, Three, WordsFit, OfNode, WritesNode}
use Rattle.report.proofs.Nodes.{NodeParts, node_parts, output_read}

module _ {q w : List ℕ} {t m : ℕ} {n : Node} {s : List ℕ} {p : ℕ} {last : Standing} (node : NodeRead w m n)
    (can : Writable q w t (OfNode q w t m) s p) (stood : Stands q w t s p last) where
  -- the sections that have a type, and those of the two contexts
  abbrev LeftWords : List ℕ → Type 0
  LeftWords = AfterCount (OfPart q w t n.left)

  abbrev RightWords : List ℕ → Type 0
  RightWords = AfterCount (OfPart q w t n.right)

  abbrev ResultWords : List ℕ → Type 0
  ResultWords = AfterCount (OfPart q w t n.result)

  abbrev Input : List ℕ → Type 0
  Input = AfterCount (OfContext q w t n.input)

  abbrev Output : List ℕ → Type 0
  Output = AfterCount (OfContext q w t n.output)

  all : Writable q w t (NodeParts q w t n) s p
  all = writable_as (node_parts node) can

  pub three_fits : WordsFit s p n.rule n.kids n.place
  three_fits = record { room = (just_room (writable_first all)).room; small = node.small }

  module _ {s₁ : List ℕ} {p₁ : ℕ} (three : Writes (Three n.rule n.kids n.place) s s₁ p p₁) where
    from_input : Writable q w t (Input Then LeftWords Then RightWords Then Output Then ResultWords) s₁ p₁
    from_input = writable_next all three

    pub input_fits : Writable q w t Input s₁ p₁ × Stands q w t s₁ p₁ last
    input_fits = (writable_first from_input, stands_next (writable_first all) three stood)

    module _ {s₂ : List ℕ} {i : Standing} (input : WritesAfter q w t n.input s₁ s₂ p₁ i) where
      from_left : Writable q w t (LeftWords Then RightWords Then Output Then ResultWords) s₂ i.end
      from_left = writable_next from_input input.writes

      pub left_fits : Writable q w t LeftWords s₂ i.end
      left_fits = writable_first from_left

      module _ {s₃ : List ℕ} {p₃ : ℕ} (left : Writes LeftWords s₂ s₃ i.end p₃) where
        from_right : Writable q w t (RightWords Then Output Then ResultWords) s₃ p₃
        from_right = writable_next from_left left

        pub right_fits : Writable q w t RightWords s₃ p₃
        right_fits = writable_first from_right

        module _ {s₄ : List ℕ} {p₄ : ℕ} (right : Writes RightWords s₃ s₄ p₃ p₄) where
          from_output : Writable q w t (Output Then ResultWords) s₄ p₄
          from_output = writable_next from_right right

          pub output_fits : Writable q w t Output s₄ p₄ × Stands q w t s₄ p₄ i
          output_fits = (writable_first from_output, stands_next right_fits right (stands_next left_fits left input.stands))

          module _ {s₅ : List ℕ} {o : Standing} (output : WritesAfter q w t n.output s₄ s₅ p₄ o) where
            pub result_fits : Writable q w t ResultWords s₅ o.end
            result_fits = writable_next from_output output.writes

            pub node_written : {s₆ : List ℕ} {z : ℕ} → Writes ResultWords s₅ s₆ o.end z → WritesNode q w t m s s₆ p (record { end = z; output = o })
            node_written result = record {
              writes = writes_as (node_parts node)
                  (writes_then three (writes_then input.writes (writes_then left (writes_then right (writes_then output.writes result)))));
              span = output.span ∙ output_read node;
              output = stands_next result_fits result output.stands;
            }
