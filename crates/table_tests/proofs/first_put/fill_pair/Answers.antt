use Rattle.std.proofs.Common.{refl}
use Rattle.index_words.specs.declared.word.Field.TheVariants.{Key, Val}
use Rattle.index_words.specs.declared.word.Part.TheVariants.{Child}
use Rattle.index_words.specs.declared.word.Word.TheVariants.{Node, Entry}
use Rattle.table_tests.specs.FirstPut.{at_root}
use Rattle.table_tests.proofs.FirstPut.{at_key, at_value, number_filled, number_free, one_above}
use Rattle.table_tests.proofs.first_put.fill_pair.Goals as goal

pub fill-requires : goal.fill-requires
fill-requires c = record { free = number_free c.args.pass.now.view at_root 15 (Node Key 1) c.requires.root refl (refl, one_above) }

pub fill-requires-2 : goal.fill-requires-2
fill-requires-2 c =
    let first = c.fill.ensures.event in
    let key = number_filled c.args.pass.now.view at_root c.fill.new.self.view 15 5 (Node Key 1) first.0 c.requires.root refl first.1 first.3 in
    record { free = number_free c.fill.new.self.view at_key 16 (Node Val 1) key refl (refl, one_above) }

pub fill-requires-3 : goal.fill-requires-3
fill-requires-3 c =
    let first = c.fill.ensures.event in
    let second = c.fill-2.ensures.event in
    let key = number_filled c.args.pass.now.view at_root c.fill.new.self.view 15 5 (Node Key 1) first.0 c.requires.root refl first.1 first.3 in
    let value = number_filled c.fill.new.self.view at_key c.fill-2.new.self.view 16 7 (Node Val 1) second.0 key refl second.1 second.3 in
    record { free = number_free c.fill-2.new.self.view at_value 35 (Entry Child 1) value refl one_above }

pub returns : goal.returns
returns c =
    let first = c.fill.ensures.event in
    let second = c.fill-2.ensures.event in
    let third = c.fill-3.ensures.event in
    let key = number_filled c.args.pass.now.view at_root c.fill.new.self.view 15 5 (Node Key 1) first.0 c.requires.root refl first.1 first.3 in
    let value = number_filled c.fill.new.self.view at_key c.fill-2.new.self.view 16 7 (Node Val 1) second.0 key refl second.1 second.3 in
    number_filled c.fill-2.new.self.view at_value c.fill-3.new.self.view 35 1 (Entry Child 1) third.0 value refl third.1 third.3
