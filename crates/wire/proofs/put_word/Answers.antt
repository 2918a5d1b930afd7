-- `put_word` meets its contract.
use native.Mathlib.Omega.{arith}
use mathlib.Core.Path.{◌∙◌}
use mathlib.Core.List.{[], ◌∷◌}
use Rattle.std.proofs.lemmas.Slice.{put_mid-paste}
use Rattle.definition.specs.Host.{bytes_of}
use Rattle.wire.proofs.put_word.Goals as goal

pub returns : goal.returns
unfolding bytes_of
returns c =
    put_mid-paste _ _ _ _ (bytes_of (c.args.x ∷ [])) 4 (c.copy_from_slice.ensures.after ∙ c.to_le_bytes.ensures) (omega arith) (omega arith)
