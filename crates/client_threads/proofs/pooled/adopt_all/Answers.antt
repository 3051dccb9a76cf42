use Rattle.std.proofs.Common.{◌≡◌, ◌++◌, ◌∷◌, [], ap, length, arith, ◌∙◌, subst}
use Rattle.std.proofs.lemmas.List.{length_push}
use Rattle.key_map.specs.Lists.{Every}
use Rattle.table_rule.specs.Homes.{Sat}
use Rattle.shared_index.specs.Keys.{home_of_note, home_of_pass}
use Rattle.shared_index.specs.Shown.{shown}
use Rattle.client_run.proofs.TradedAnswers.{traded_on}
use Rattle.slot_depot.proofs.Totals.{every_front}
use Rattle.client_threads.proofs.pooled.adopt_all.Goals as goal

-- one node slot is taken over, and the rest belongs to the same index
pub loop-parcel-preserved : goal.loop-parcel-preserved
loop-parcel-preserved c =
    let kept = c.loop-parcel.invariant in
    let of : Sat → Type 0 = λ p. home_of_note p ≡ home_of_pass c.args.pass.now in (
      traded_on (shown c.args.pass.now) (shown c.loop-parcel.pass) (shown c.adopt.new.self) kept.0 c.adopt.ensures.adopted.traded,
      c.adopt.ensures.home ∙ kept.1,
      (every_front of c.pop.new.self.items c.in-Some.parcel (subst (Every of) c.in-Some.ensures.items kept.2)).0,
      omega (arith, c.adopt.ensures.adopted.nodes, ap length c.in-Some.ensures.items, length_push c.pop.new.self.items c.in-Some.parcel, kept.3),
    )
