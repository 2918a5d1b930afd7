-- `write_type` meets its contract.
use Rattle.std.proofs.Common.{rules}
use Rattle.writing.proofs.Copying.{base_room, writes_base, copy_room, writes_copied}
use Rattle.writing.proofs.write_type.Goals as goal

pub put-requires : goal.put-requires
put-requires c = base_room c.form.ensures c.in-Int.is c.code.ensures c.requires.spelled.says c.requires.room

pub returns-in-Int : goal.returns-in-Int
returns-in-Int c = writes_base c.form.ensures c.in-Int.is c.code.ensures c.put.ensures

pub copy_words-requires : goal.copy_words-requires
copy_words-requires c = search (copy_room, rules)

pub returns-in_default : goal.returns-in_default
returns-in_default c = search writes_copied
