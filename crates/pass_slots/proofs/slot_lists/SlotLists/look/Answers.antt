use Rattle.std.proofs.Common.{◌≡◌, cond, Bool, true, false, refl, ◌∙◌}
use Rattle.index_words.specs.declared.view.View.{View}
use Rattle.core_grace.specs.Batches.{batch_taken, looked_at, is_empty}
use Rattle.pass_slots.specs.Owned.{KeepsSlots, kept_of}
use Rattle.pass_slots.proofs.slot_lists.SlotLists.look.Goals as goal

number_either : (b : Bool) (v w : View) → w.number ≡ v.number → (cond b w v).number ≡ v.number
number_either true v w same = same
number_either false v w same = refl

pub returns-clause-keeps : goal.returns-clause-keeps
returns-clause-keeps c v keeps number =
    let s = c.take_batch.new.self in
    let w : View = batch_taken v in
    let here : KeepsSlots w (kept_of s.nodes s.entries s.waits) = c.take_batch.ensures.keeps v keeps in
    let now : View = record w { grace = looked_at w.grace c.args.pass c.args.word } in
    let after_look : KeepsSlots now (kept_of s.nodes s.entries c.look_at.new.self) = record { free = here.free; batch = here.batch; retired = here.retired; looks = c.look_at.ensures w.grace here.looks } in
    c.settle.ensures.keeps now after_look (number_either (is_empty v.batch) v _ refl ∙ number)
