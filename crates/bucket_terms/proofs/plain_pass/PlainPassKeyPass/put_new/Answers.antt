use Rattle.std.proofs.Common.{◌≡◌, ℕ, List, ◌+◌, ◌-◌, [], ◌∷◌, ◌++◌, None, All, false, length, sym, ap, ◌∙◌, refl, arith, subst, append-nil}
use Rattle.std.proofs.lemmas.List.{length_push}
use Rattle.std.proofs.lemmas.Option.{none-some}
use Rattle.std.proofs.lemmas.List.Elements.{All-push}
use Rattle.key_map.specs.declared.pair.Pair.{Pair}
use Rattle.key_map.specs.Map.{map_has}
use Rattle.key_map.specs.History.{after}
use Rattle.key_map.specs.declared.update.Update.{Update}
use Rattle.key_map.specs.declared.update.Change.TheVariants.{Put}
use Rattle.key_map.proofs.HistoryLaws.{after-push, after-append}
use Rattle.key_map.proofs.PlacesLaws.{own_places-own}
use Rattle.bucket_terms.proofs.plain_pass.PlainPassKeyPass.put_new.Goals as goal

pub invariant_of-self-2 : goal.invariant_of-self-2
invariant_of-self-2 g c =
    let p = c.self.inside in
    let old = p.updates.items in
    let u : Update = record { client = p.number; line = c.args.line; key = c.args.key; change = Put c.args.val } in
    let items : c.push_reserved.new.self.items ≡ old ++ u ∷ [] = c.push_reserved.ensures.items in
    let longer : length c.push_reserved.new.self.items ≡ length old + 1 = ap length items ∙ length_push old u in
    let map = c.put.ensures.map in
    let closed : p.opened ≡ None = rw (← c.self.view_is) at c.requires in
    record {
      map = rw (longer, items, after-push old u, map, c.self.invariant.map);
      small = omega (arith, c.put.ensures.size, c.self.invariant.small);
      own = subst (λ us. All (λ (v : Update). v.client ≡ p.number) us) (sym items) (All-push (λ (v : Update). v.client ≡ p.number) old u c.self.invariant.own refl);
      update_room = omega (arith, c.self.invariant.update_room, c.push_reserved.ensures.capacity);
      pair_room = rw map (omega (arith, c.self.invariant.pair_room));
      slots = omega (arith, c.self.invariant.slots);
      snapshot = λ x e. absurd (none-some x (sym closed ∙ e));
    }

pub returns-clause-answered : goal.returns-clause-answered
returns-clause-answered g c =
    let p = c.self.inside in
    let old = p.updates.items in
    let u : Update = record { client = p.number; line = c.args.line; key = c.args.key; change = Put c.args.val } in
    let items : c.push_reserved.new.self.items ≡ old ++ u ∷ [] = c.push_reserved.ensures.items in
    let longer : length c.push_reserved.new.self.items ≡ length old + 1 = ap length items ∙ length_push old u in
    let here : c.len.result ≡ length c.push_reserved.new.self.items = omega arith in
    let closed : p.opened ≡ None = rw (← c.self.view_is) at c.requires in
    let absent : map_has c.args.key p.map.pairs ≡ false = sym c.has.ensures ∙ c.if-has.false in
    rw (← c.self.view_is) (record {
      update = record {
        continues = record { number = refl; seen = (u ∷ [], items); mine = refl; looks = omega arith };
        above = omega arith;
        others = [];
        seen = rw append-nil items;
        place = here;
        mine = rw (items, own_places-own p.number old u refl, here, longer);
        left = omega arith;
        entries = omega arith;
        closed = closed;
      };
      absent = ap (λ (us : List Update). map_has c.args.key (after us (c.len.result - 1))) items ∙ ap (λ (n : ℕ). map_has c.args.key (after (old ++ u ∷ []) n)) (omega arith) ∙ ap (λ (m : List Pair). map_has c.args.key m) (after-append old (u ∷ []) (length old) (omega arith) ∙ sym c.self.invariant.map) ∙ absent;
      nodes = omega arith;
    })
