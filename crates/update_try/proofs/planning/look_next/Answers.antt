use Rattle.std.proofs.Common.{◌≡◌, ◌<◌, ◌∙◌, arith, ap, sym, subst, inr, Some}
use Rattle.index_words.specs.declared.side.Side.TheVariants.{Left}
use Rattle.index_words.specs.declared.view.reading.Reading.{Reading}
use Rattle.core_trees.specs.declared.link.Link.{Link}
use Rattle.core_updates.specs.Held.{HoldsGap, HoldsLink, RemembersGap}
use Rattle.core_updates.specs.PlanEvents.{KnowsLink, KnowsTag}
use Rattle.core_updates.specs.Plans.{GapLook, KeyLook, LinkLook, ValLook, link_of}
use Rattle.plan_laws.specs.Looks.{RemembersNull}
use Rattle.update_search.proofs.Keeps.{search_more}
use Rattle.update_try.specs.Looking.{IsLockedBy}
use Rattle.update_try.proofs.Found.{turn_some}
use Rattle.update_try.proofs.LooksUnder.{gap_locked}
use Rattle.update_try.proofs.NextLooks.{nothing_kept}
use Rattle.update_try.proofs.planning.look_next.Goals as goal

pub look_key-key-requires : goal.look_key-key-requires
look_key-key-requires c = record { locked = gap_locked c.args.pass.now.view c.look_unmarked.new.pass.view c.args.found.now.node c.look_unmarked.ensures.keeps c.requires.locked }

pub look_val-val-requires : goal.look_val-val-requires
look_val-val-requires c =
    let k = c.args.found.now.node in
    let by = gap_locked c.args.pass.now.view c.look_unmarked.new.pass.view k c.look_unmarked.ensures.keeps c.requires.locked in
    record { locked = gap_locked c.look_unmarked.new.pass.view c.look_key-key.new.pass.view k c.look_key-key.ensures.keeps by }

pub look_at_gap-requires-clause-locked : goal.look_at_gap-requires-clause-locked
look_at_gap-requires-clause-locked c =
    let k = c.args.found.now.node in
    let one = gap_locked c.args.pass.now.view c.look_unmarked.new.pass.view k c.look_unmarked.ensures.keeps c.requires.locked in
    let two = gap_locked c.look_unmarked.new.pass.view c.look_key-key.new.pass.view k c.look_key-key.ensures.keeps one in
    let three = gap_locked c.look_key-key.new.pass.view c.look_val-val.new.pass.view k c.look_val-val.ensures.keeps two in
    subst (λ (l : Link). IsLockedBy c.look_val-val.new.pass.view l.node) (sym c.requires.found.1.gap_at) three

pub look_at_gap-requires-clause-root : goal.look_at_gap-requires-clause-root
look_at_gap-requires-clause-root c =
    let f = c.requires.found in
    let some : 0 < c.args.found.now.node = turn_some c.args.pass.now.view c.facts.ensures Left (record { node = c.args.found.now.node; key = f.1.high }) f.1.left in
    λ zero. absurd (omega (arith, some, zero, ap (λ (l : Link). l.node) f.1.gap_at))

pub look_at_gap-requires-clause-found : goal.look_at_gap-requires-clause-found
look_at_gap-requires-clause-found c =
    let f = c.requires.found in
    let g = c.args.found.now.gap in (
      Some f.1.high,
      Some f.0,
      c.look_val-val.ensures.keeps.looks.null g.at g.tag (Some f.1.high) (Some f.0)
          (c.look_key-key.ensures.keeps.looks.null g.at g.tag (Some f.1.high) (Some f.0) (c.look_unmarked.ensures.keeps.looks.null g.at g.tag (Some f.1.high) (Some f.0) f.1.gap)),
    )

pub look_at_gap-requires-clause-first_link : goal.look_at_gap-requires-clause-first_link
look_at_gap-requires-clause-first_link c =
    let k = c.args.found.now.node in
    let one = nothing_kept c.args.pass.now.view c.look_unmarked.new.pass.view k c.look_unmarked.ensures.learns c.requires.first in
    let two = nothing_kept c.look_unmarked.new.pass.view c.look_key-key.new.pass.view k c.look_key-key.ensures.learns one in
    let three = nothing_kept c.look_key-key.new.pass.view c.look_val-val.new.pass.view k c.look_val-val.ensures.learns two in
    subst (λ (l : Link). ¬ KnowsLink c.look_val-val.new.pass.view l.node l.side) (sym c.requires.found.1.gap_at) (three.link Left)

pub look_at_gap-requires-clause-first_tag : goal.look_at_gap-requires-clause-first_tag
look_at_gap-requires-clause-first_tag c =
    let k = c.args.found.now.node in
    let one = nothing_kept c.args.pass.now.view c.look_unmarked.new.pass.view k c.look_unmarked.ensures.learns c.requires.first in
    let two = nothing_kept c.look_unmarked.new.pass.view c.look_key-key.new.pass.view k c.look_key-key.ensures.learns one in
    let three = nothing_kept c.look_key-key.new.pass.view c.look_val-val.new.pass.view k c.look_val-val.ensures.learns two in
    subst (λ (l : Link). ¬ KnowsTag c.look_val-val.new.pass.view l.node l.side) (sym c.requires.found.1.gap_at) (three.tag Left)

pub returns-in_err-look_at_gap-clause-looks : goal.returns-in_err-look_at_gap-clause-looks
returns-in_err-look_at_gap-clause-looks c =
    let laws = c.search_laws.ensures in
    let v = c.args.pass.now.view in
    let two = search_more laws v c.look_unmarked.new.pass.view c.look_key-key.new.pass.view c.look_unmarked.ensures.keeps c.look_key-key.ensures.keeps in
    let three = search_more laws v c.look_key-key.new.pass.view c.look_val-val.new.pass.view two c.look_val-val.ensures.keeps in
    search_more laws v c.look_val-val.new.pass.view c.look_at_gap.new.pass.view three c.look_at_gap.ensures.keeps

pub look_link-right-requires-clause-locked : goal.look_link-right-requires-clause-locked
look_link-right-requires-clause-locked c =
    let k = c.args.found.now.node in
    let one = gap_locked c.args.pass.now.view c.look_unmarked.new.pass.view k c.look_unmarked.ensures.keeps c.requires.locked in
    let two = gap_locked c.look_unmarked.new.pass.view c.look_key-key.new.pass.view k c.look_key-key.ensures.keeps one in
    let three = gap_locked c.look_key-key.new.pass.view c.look_val-val.new.pass.view k c.look_val-val.ensures.keeps two in
    gap_locked c.look_val-val.new.pass.view c.look_at_gap.new.pass.view k c.look_at_gap.ensures.keeps three

pub returns-clause-looks : goal.returns-clause-looks
returns-clause-looks c =
    let laws = c.search_laws.ensures in
    let v = c.args.pass.now.view in
    let two = search_more laws v c.look_unmarked.new.pass.view c.look_key-key.new.pass.view c.look_unmarked.ensures.keeps c.look_key-key.ensures.keeps in
    let three = search_more laws v c.look_key-key.new.pass.view c.look_val-val.new.pass.view two c.look_val-val.ensures.keeps in
    let four = search_more laws v c.look_val-val.new.pass.view c.look_at_gap.new.pass.view three c.look_at_gap.ensures.keeps in
    search_more laws v c.look_at_gap.new.pass.view c.look_link-right.new.pass.view four c.look_link-right.ensures.keeps

pub returns-clause-next : goal.returns-clause-next
returns-clause-next c = λ low f.
    let laws = c.search_laws.ensures in
    let v = c.args.pass.now.view in
    let k = c.args.found.now.node in
    let g = c.args.found.now.gap in
    let w1 = c.look_unmarked.new.pass.view in
    let w2 = c.look_key-key.new.pass.view in
    let w3 = c.look_val-val.new.pass.view in
    let w4 = c.look_at_gap.new.pass.view in
    let w5 = c.look_link-right.new.pass.view in
    let from3 = search_more laws w3 w4 w5 c.look_at_gap.ensures.keeps c.look_link-right.ensures.keeps in
    let from2 = search_more laws w2 w3 w5 c.look_val-val.ensures.keeps from3 in
    let from1 = search_more laws w1 w2 w5 c.look_key-key.ensures.keeps from2 in
    let from0 = search_more laws v w1 w5 c.look_unmarked.ensures.keeps from1 in
    let key_is : c.look_key-key.result ≡ f.high = c.look_key-key.ensures.known f.high (inr (Left, ap (λ (r : Reading). r.left_turn) c.look_unmarked.ensures.reading ∙ f.left)) in
    let null : RemembersNull w3 g.at g.tag (Some f.high) (Some low)
    = c.look_val-val.ensures.keeps.looks.null g.at g.tag (Some f.high) (Some low)
    (c.look_key-key.ensures.keeps.looks.null g.at g.tag (Some f.high) (Some low) (c.look_unmarked.ensures.keeps.looks.null g.at g.tag (Some f.high) (Some low) f.gap)) in
    record {
      at = from0.looks.looks (LinkLook c.args.found.now.at k) c.requires.at;
      key_is = from2.looks.looks (KeyLook k c.look_key-key.result) c.look_key-key.ensures.key;
      val_is = from3.looks.looks (ValLook k c.look_val-val.result) c.look_val-val.ensures.val;
      above = omega (arith, f.above, key_is);
      left_link =
          c.look_link-right.ensures.keeps.looks.looks (LinkLook (link_of k Left) 0)
          (subst (λ (l : Link). HoldsLink w4 l.node l.side 0) f.gap_at c.in_ok-look_at_gap.ensures.null);
      right_link = c.look_link-right.ensures.leads;
      gap = λ x over under.
          let between : RemembersGap w3 g.at.node g.at.side g.tag x = record {
            place = null.place;
            link = null.link;
            is = null.is;
            node_is = null.node_is;
            side_is = null.side_is;
            child_is = null.child_is;
            above = Some f.high;
            below = Some low;
            source = null.source;
            over = over;
            under = omega (arith, under, key_is);
          } in
          c.look_link-right.ensures.keeps.looks.looks (GapLook (link_of k Left) x)
          (subst (λ (l : Link). HoldsGap w4 l.node l.side x) f.gap_at (c.in_ok-look_at_gap.ensures.gap x between));
    }
