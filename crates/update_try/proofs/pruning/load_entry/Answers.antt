use Rattle.update_try.proofs.PruneWalks.{least_more, update_more}
use Rattle.update_try.proofs.Pruned.{nexts_loaded, nodes_read, may_next, may_number, next_least, next_update, number_least, number_some, number_update, stops_here}
use Rattle.update_try.proofs.KeptWalks.{walks_read}
use Rattle.update_try.proofs.pruning.load_entry.Goals as goal

pub load_ts-number-requires : goal.load_ts-number-requires
load_ts-number-requires c =
    let past = c.requires.past in
    record { may = may_number c.args.pass.now.view c.args.at past.1.0 c.args.entry past.1.2.stands c.requires.some }

pub load_next-next-requires : goal.load_next-next-requires
load_next-next-requires c =
    let past = c.requires.past in
    record {
      may = may_next c.args.pass.now.view c.load_ts-number.new.self.view c.args.at past.1.0 c.args.entry c.load_ts-number.result past.1.2.stands c.requires.some c.load_ts-number.ensures.view;
    }

pub returns-clause-stops : goal.returns-clause-stops
returns-clause-stops c least head front past =
    stops_here c.args.pass.now.view c.load_ts-number.new.self.view c.load_next-next.new.self.view c.args.at least head c.args.entry c.load_ts-number.result c.load_next-next.result front past
    c.requires.some
    (number_some c.args.pass.now c.load_ts-number.new.self.view c.args.at least head c.args.entry c.load_ts-number.result front c.facts.ensures past c.requires.some c.load_ts-number.ensures.event)
    c.load_ts-number.ensures.view c.load_next-next.ensures.view c.load_next-next.ensures.there

pub returns-clause-update : goal.returns-clause-update
returns-clause-update c =
    let v = c.args.pass.now.view in
    let u = c.load_ts-number.new.self.view in
    let w = c.load_next-next.new.self.view in
    update_more v u w (number_update v u c.args.entry c.load_ts-number.result
    (number_some c.args.pass.now u c.args.at c.requires.past.0 c.requires.past.1.0 c.args.entry c.load_ts-number.result c.requires.past.1.1 c.facts.ensures c.requires.past.1.2 c.requires.some
    c.load_ts-number.ensures.event)
    c.load_ts-number.ensures.view) (next_update u w c.args.entry c.load_next-next.result c.load_next-next.ensures.view)

pub returns-clause-least : goal.returns-clause-least
returns-clause-least c =
    let v = c.args.pass.now.view in
    let u = c.load_ts-number.new.self.view in
    let w = c.load_next-next.new.self.view in
    least_more v u w (number_least v u c.args.entry c.load_ts-number.result c.load_ts-number.ensures.view) (next_least u w c.args.entry c.load_next-next.result c.load_next-next.ensures.view)

pub returns-clause-walks : goal.returns-clause-walks
returns-clause-walks c =
    let v = c.args.pass.now.view in
    let u = c.load_ts-number.new.self.view in
    let w = c.load_next-next.new.self.view in
    let number = c.load_ts-number.result in
    let next = c.load_next-next.result in
    let entry = c.args.entry in
    let least = c.requires.past.0 in
    let head = c.requires.past.1.0 in
    let front = c.requires.past.1.1 in
    let past = c.requires.past.1.2 in
    let some = c.requires.some in
    let loads = c.load_ts-number.ensures.view in
    let gives = c.load_next-next.ensures.view in
    let low = c.load_next-next.ensures.there in
    let written = number_some c.args.pass.now u c.args.at least head entry number front c.facts.ensures past some c.load_ts-number.ensures.event in
    walks_read v u w entry number written loads (nexts_loaded v u w c.args.at least head entry number next front past some written loads gives low)
    (nodes_read v u w c.args.at least head entry number next front past some written loads gives low)
