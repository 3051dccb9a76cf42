-- The keys of the passes that work over the table itself are all keys of it again.
use Rattle.std.proofs.Common.{◌≡◌, ℕ, ◌<◌, ◌≤◌, [], ◌∷◌, Some, true, map, ap, ◌∙◌, arith}
use Rattle.std.specs.List.{slice_get}
use Rattle.std.proofs.lemmas.Bool.Decides.{nat_tests}
use Rattle.key_map.specs.Lists.{count}
use Rattle.index_words.specs.declared.layout.Layout.{Layout}
use Rattle.index_words.specs.declared.view.View.{View}
use Rattle.index_words.specs.declared.word.Part.{Part}
use Rattle.index_words.specs.declared.word.Word.TheVariants.{Entry}
use Rattle.index_words.specs.Words.{is_there}
use Rattle.plan_laws.proofs.Items.{got-counts}
use Rattle.table_rule.specs.Homes.{Home, IsLiveView}
use Rattle.table_steps.proofs.There.{free_entry_there}
use Rattle.table_steps.specs.Closes.{number_of, AreAllKeys}
use Rattle.table_steps.specs.Passes.{Pass}
use Rattle.index_runs.specs.declared.sections.Four.{Four}
use Rattle.index_runs.specs.Sections.{AreBack, IsBack, keys_of}

pub all_back : (table : Home) (old new : Four) (fifth back : Pass) → AreAllKeys table (keys_of old fifth)
    → AreBack table old new → IsBack table fifth back → AreAllKeys table (keys_of new back)
all_back table old new fifth back all four last = record {
  of = (four.a.of, (four.b.of, (four.c.of, (four.d.of, (last.of, tt)))));
  each = λ n low. ap (count n) numbers ∙ all.each n low;
}
  where
    numbers : map number_of (keys_of new back) ≡ map number_of (keys_of old fifth)
    numbers = λ i. four.a.number i ∷ four.b.number i ∷ four.c.number i ∷ four.d.number i ∷ last.number i ∷ []

-- the words of a free entry are there
pub free_there : (v : View) → IsLiveView v → (part : Part) (e : ℕ) → slice_get v.free.entries 0 ≡ Some e → is_there v.layout (Entry part e) ≡ true
free_there v live part e is =
    let there = free_entry_there v live e (got-counts v.free.entries 0 e is) in
    both v.layout part e there.0 there.1
  where
    both : (z : Layout) (part : Part) (e : ℕ) → 0 < e → e ≤ z.entries → is_there z (Entry part e) ≡ true
    both z part e low high = grind (arith, nat_tests)
