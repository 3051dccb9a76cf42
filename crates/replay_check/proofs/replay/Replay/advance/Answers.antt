use Rattle.std.proofs.Common.{◌≡◌, ℕ, ◌+◌, ◌-◌, ◌<◌, List, length, get_or, Some, refl, sym, ap, ◌∙◌, arith}
use Rattle.std.specs.List.{slice_get}
use Rattle.std.proofs.lemmas.Option.{get_or_from_slice_get}
use Rattle.key_map.specs.declared.pair.Pair.{Pair}
use Rattle.key_map.specs.Map.{map_has}
use Rattle.key_map.specs.declared.update.Update.{Update}
use Rattle.key_map.specs.History.{after, updated}
use Rattle.key_map.proofs.HistoryLaws.{after-more}
use Rattle.replay_check.proofs.replay.Replay.advance.Goals as goal

one_more : (us : List Update) (t : ℕ) (d : Update) (m n : List Pair) → t < length us → m ≡ after us t → n ≡ updated m (get_or us t d) → n ≡ after us (t + 1)
one_more us t d m n lt before now = now ∙ ap (λ (x : List Pair). updated x (get_or us t d)) before ∙ sym (after-more us t d lt)

-- the key of the update, and the map before it
key_was : (us : List Update) (t n : ℕ) (d u : Update) (m : List Pair) → n ≡ t → m ≡ after us t → slice_get us n ≡ Some u → map_has (get_or us t d).key m ≡ map_has u.key (after us n)
key_was us t n d u m same is here =
    ap (map_has (get_or us t d).key) is
    ∙ ap (λ (v : Update). map_has v.key (after us t)) (get_or_from_slice_get us t u d (ap (λ (k : ℕ). slice_get us k) (sym same) ∙ here))
    ∙ ap (λ (k : ℕ). map_has u.key (after us k)) (sym same)

pub returns : goal.returns
returns c =
    let before = c.requires.so_far in
    record {
      at_is = refl;
      within = omega (arith, c.requires.within);
      map_is = one_more _ _ _ _ _ c.requires.within before.map_is c.in_ok-self.ensures.map;
      was_is = λ u some here. c.in_ok-self.ensures.was ∙ key_was c.args.updates.now c.args.self.now.at (c.args.self.now.at + 1 - 1) _ u c.args.self.now.map (omega arith) before.map_is here;
    }
