use Rattle.std.proofs.Common.{◌≡◌, ◌∙◌, ◌&&◌, ℕ, Bool, true, false, arith, refl, ap, sym, subst, Option, None, Some, IfSome}
use Rattle.bundle_reads.proofs.ReadMoves.{same_more}
use Rattle.core_updates.specs.Ready.{update_of}
use Rattle.index_words.specs.declared.view.history.Counts.{Counts}
use Rattle.key_map.specs.declared.update.Change.{Change}
use Rattle.table_steps.proofs.Places.{raised_later}
use Rattle.table_steps.specs.Raises.{IsRaisedSince}
use Rattle.update_search.specs.declared.search.Aim.{Aim}
use Rattle.index_words.specs.declared.view.View.{View}
use Rattle.update_search.specs.Ends.{IsMissing}
use Rattle.update_search.specs.Aims.{IsAim, IsAimOf, has_found, is_put, key_of}
use Rattle.tree_update.specs.Trying.{FindsKey}
use Rattle.tree_update.proofs.Alone.{others_stay}
use Rattle.tree_update.proofs.CallSteps.{kept_stays, search_stays, stays_more}
use Rattle.tree_update.proofs.CallsMade.{made_as, has_made_more}
use Rattle.tree_update.proofs.TryMade.{counted_still, has_searched, offers_still, opened_counted, searched_inside, searched_waits, try_counted}
use Rattle.tree_update.proofs.trying.try_update.Goals as goal

-- what the search has found
aim_of : (key : ℕ) (change : Change) (o : Option Aim) (aim : Aim) → o ≡ Some aim → IfSome o (IsAimOf key change) → IsAimOf key change aim
aim_of key change o aim is of = subst (λ (x : Option Aim). IfSome x (IsAimOf key change)) is of

pub give_up-requires : goal.give_up-requires
give_up-requires c = record {
  reads = searched_inside c.args.pass.now c.begin_search-at.new.pass.view c.find_aim.new.pass.view c.begin_search-at.result c.begin_search-at.ensures.opened
      c.begin_search-at.ensures.top c.in-Ok-Some.ensures.keeps.places;
}

pub give_up-requires-in-Ok-None : goal.give_up-requires-in-Ok-None
give_up-requires-in-Ok-None c = record {
  reads = searched_inside c.args.pass.now c.begin_search-at.new.pass.view c.find_aim.new.pass.view c.begin_search-at.result c.begin_search-at.ensures.opened
      c.begin_search-at.ensures.top c.in-Ok-None.ensures.keeps.places;
}

pub give_up-requires-in-Err : goal.give_up-requires-in-Err
give_up-requires-in-Err c = record {
  reads = searched_inside c.args.pass.now c.begin_search-at.new.pass.view c.find_aim.new.pass.view c.begin_search-at.result c.begin_search-at.ensures.opened
      c.begin_search-at.ensures.top c.in-Err.ensures.given_up;
}

pub carry_out-requires-clause-reads : goal.carry_out-requires-clause-reads
carry_out-requires-clause-reads c =
    (searched_inside c.args.pass.now c.begin_search-at.new.pass.view c.find_aim.new.pass.view c.begin_search-at.result c.begin_search-at.ensures.opened
    c.begin_search-at.ensures.top c.in-Ok-Some.ensures.keeps.places).section

pub carry_out-requires-clause-free : goal.carry_out-requires-clause-free
carry_out-requires-clause-free c =
    (offers_still c.args.pass.now c.begin_search-at.new.pass.view c.find_aim.new.pass.view c.begin_search-at.result c.begin_search-at.ensures.opened
    c.in-Ok-Some.ensures.keeps.places.keeps c.args.slots.now c.requires.slots).free

pub carry_out-requires-clause-left : goal.carry_out-requires-clause-left
carry_out-requires-clause-left c =
    let stays = search_stays c.args.pass.now c.begin_search-at.new.pass.view c.find_aim.new.pass.view c.begin_search-at.result c.begin_search-at.ensures.opened
    c.in-Ok-Some.ensures.keeps.places.keeps in
    omega (arith, c.requires.left, stays.goes.left)

-- the update is made
pub returns-in-Ok-clause-put : goal.returns-in-Ok-clause-put
returns-in-Ok-clause-put c =
    let of : IsAimOf c.args.wanted.key c.args.wanted.change c.in-Ok-Some.aim
    = aim_of c.args.wanted.key c.args.wanted.change c.in-Ok-Some.field-0 c.in-Ok-Some.aim c.in-Ok-Some.field-0-is c.in-Ok-Some.ensures.of in
    subst (λ (d : Change). is_put d ≡ true → c.in-Ok.carried.parted ≡ None) of.change_is c.in-Ok.ensures.put

pub returns-in-Ok-clause-made : goal.returns-in-Ok-clause-made
returns-in-Ok-clause-made c =
    let v = c.args.pass.now.view in
    let b = c.begin_search-at.new.pass.view in
    let x = c.find_aim.new.pass in
    let w = c.carry_out.new.pass.view in
    let stays = search_stays c.args.pass.now b x.view c.begin_search-at.result c.begin_search-at.ensures.opened c.in-Ok-Some.ensures.keeps.places.keeps in
    let of : IsAimOf c.args.wanted.key c.args.wanted.change c.in-Ok-Some.aim
    = aim_of c.args.wanted.key c.args.wanted.change c.in-Ok-Some.field-0 c.in-Ok-Some.aim c.in-Ok-Some.field-0-is c.in-Ok-Some.ensures.of in
    let number = c.find_aim.ensures.same.number ∙ c.begin_search-at.ensures.same.number in
    has_made_more v x.view w c.args.pass.now.number c.args.wanted.line c.args.wanted.key c.args.wanted.change c.in-Ok.carried.done stays
    (made_as x.view w x.number c.args.pass.now.number c.args.wanted.line c.args.wanted.key c.args.wanted.change c.in-Ok-Some.aim c.in-Ok.carried.done number of.key_is of.change_is
    c.in-Ok.ensures.done c.in-Ok.ensures.was)

pub returns-in-Ok-clause-raise : goal.returns-in-Ok-clause-raise
returns-in-Ok-clause-raise c =
    let p = c.args.pass.now in
    let b = c.begin_search-at.new.pass in
    let x = c.find_aim.new.pass in
    let w = c.carry_out.new.pass.view in
    let aim = c.in-Ok-Some.aim in
    let of : IsAimOf c.args.wanted.key c.args.wanted.change c.in-Ok-Some.aim
    = aim_of c.args.wanted.key c.args.wanted.change c.in-Ok-Some.field-0 c.in-Ok-Some.aim c.in-Ok-Some.field-0-is c.in-Ok-Some.ensures.of in
    let at = c.in-Ok.carried.done.at in
    let stays = search_stays p b.view x.view c.begin_search-at.result c.begin_search-at.ensures.opened c.in-Ok-Some.ensures.keeps.places.keeps in
    let same = same_more p b x c.begin_search-at.ensures.same c.find_aim.ensures.same in
    let raised : IsRaisedSince x (update_of p.number c.args.wanted.line c.args.wanted.key c.args.wanted.change) at w
    = subst (λ (n : ℕ). IsRaisedSince x (update_of n c.args.wanted.line c.args.wanted.key c.args.wanted.change) at w) same.number
    (subst (λ (k : ℕ). IsRaisedSince x (update_of x.number c.args.wanted.line k c.args.wanted.change) at w) of.key_is
    (subst (λ (d : Change). IsRaisedSince x (update_of x.number c.args.wanted.line (key_of aim) d) at w) of.change_is c.in-Ok.ensures.raise)) in
    raised_later p x (update_of p.number c.args.wanted.line c.args.wanted.key c.args.wanted.change) at w same stays.goes.mine raised

pub returns-in-Ok-clause-absent : goal.returns-in-Ok-clause-absent
returns-in-Ok-clause-absent c = λ only.
    let had = has_found c.in-Ok-Some.aim in
    let out : (c.args.wanted.only_new && had) ≡ false = sym c.is_kept_out.ensures ∙ c.if-is_kept_out.false in
    c.in-Ok.ensures.was ∙ subst (λ (b : Bool). (b && had) ≡ false) only out

pub returns-in-Ok-clause-waits : goal.returns-in-Ok-clause-waits
returns-in-Ok-clause-waits c =
    searched_waits c.args.pass.now c.begin_search-at.new.pass.view c.find_aim.new.pass.view c.carry_out.new.pass.view c.begin_search-at.result
    c.begin_search-at.ensures.opened c.in-Ok-Some.ensures.keeps.places c.carry_out.ensures.waits

-- it was tried, and not made
pub returns-in-Err-carry_out-clause-missed : goal.returns-in-Err-carry_out-clause-missed
returns-in-Err-carry_out-clause-missed c = (
  try_counted c.args.pass.now c.begin_search-at.new.pass.view c.find_aim.new.pass.view c.begin_search-at.result c.begin_search-at.ensures.opened
      c.in-Ok-Some.ensures.keeps.places.keeps c.in-Err-carry_out.failed c.carry_out.new.pass.view c.in-Err-carry_out.ensures.counted,
  c.in-Err-carry_out.ensures.alone,
)

pub returns-in-Err-carry_out-clause-stays : goal.returns-in-Err-carry_out-clause-stays
returns-in-Err-carry_out-clause-stays c =
    let v = c.args.pass.now.view in
    let b = c.begin_search-at.new.pass.view in
    let x = c.find_aim.new.pass.view in
    let w = c.carry_out.new.pass.view in
    stays_more v x w (search_stays c.args.pass.now b x c.begin_search-at.result c.begin_search-at.ensures.opened c.in-Ok-Some.ensures.keeps.places.keeps)
    (kept_stays x w c.in-Err-carry_out.ensures.kept)

pub returns-in-Err-carry_out-clause-waits : goal.returns-in-Err-carry_out-clause-waits
returns-in-Err-carry_out-clause-waits c =
    searched_waits c.args.pass.now c.begin_search-at.new.pass.view c.find_aim.new.pass.view c.carry_out.new.pass.view c.begin_search-at.result
    c.begin_search-at.ensures.opened c.in-Ok-Some.ensures.keeps.places c.carry_out.ensures.waits

-- of two that hold together the first holds
first_true : (a b : Bool) → (a && b) ≡ true → a ≡ true
first_true true b both = refl
first_true false b both = both

second_true : (a b : Bool) → (a && b) ≡ true → b ≡ true
second_true true b both = both
second_true false b both = cc

pub returns-then-is_kept_out-clause-missed : goal.returns-then-is_kept_out-clause-missed
returns-then-is_kept_out-clause-missed c =
    let x = c.find_aim.new.pass.view in
    let aim = c.in-Ok-Some.aim in
    let both = sym c.is_kept_out.ensures ∙ c.if-is_kept_out.true in
    let of : IsAimOf c.args.wanted.key c.args.wanted.change aim = aim_of c.args.wanted.key c.args.wanted.change c.in-Ok-Some.field-0 aim c.in-Ok-Some.field-0-is c.in-Ok-Some.ensures.of in
    let is : IsAim x aim = subst (λ (o : Option Aim). IfSome o (IsAim x)) c.in-Ok-Some.field-0-is c.in-Ok-Some.ensures.aim in (
      first_true c.args.wanted.only_new (has_found aim) both,
      has_searched (FindsKey c.args.wanted.key) c.args.pass.now c.begin_search-at.new.pass.view x c.give_up.new.pass.view c.begin_search-at.result c.begin_search-at.ensures.opened
          c.in-Ok-Some.ensures.keeps.places c.facts-then-is_kept_out.ensures (record { aim = aim; is = is; key_is = of.key_is; found = second_true c.args.wanted.only_new (has_found aim) both })
          c.give_up.ensures.left,
    )

pub returns-then-is_kept_out-clause-stays : goal.returns-then-is_kept_out-clause-stays
returns-then-is_kept_out-clause-stays c =
    let v = c.args.pass.now.view in
    let b = c.begin_search-at.new.pass.view in
    let x = c.find_aim.new.pass.view in
    stays_more v x c.give_up.new.pass.view
    (search_stays c.args.pass.now b x c.begin_search-at.result c.begin_search-at.ensures.opened c.in-Ok-Some.ensures.keeps.places.keeps) c.give_up.ensures.stays

pub returns-then-is_kept_out-clause-waits : goal.returns-then-is_kept_out-clause-waits
returns-then-is_kept_out-clause-waits c =
    searched_waits c.args.pass.now c.begin_search-at.new.pass.view c.find_aim.new.pass.view c.give_up.new.pass.view c.begin_search-at.result
    c.begin_search-at.ensures.opened c.in-Ok-Some.ensures.keeps.places (ap (λ (n : Counts). n.waits) c.give_up.ensures.counts)

-- the search has not found the key of a removal
pub returns-in-Ok-None-clause-missed : goal.returns-in-Ok-None-clause-missed
returns-in-Ok-None-clause-missed c =
    let x = c.find_aim.new.pass.view in (
      c.in-Ok-None.ensures.none c.in-Ok-None.field-0-is,
      has_searched (λ (at : View). IsMissing at c.args.wanted.key) c.args.pass.now c.begin_search-at.new.pass.view x c.give_up-in-Ok-None.new.pass.view c.begin_search-at.result
          c.begin_search-at.ensures.opened c.in-Ok-None.ensures.keeps.places c.facts-in-Ok-None.ensures (c.in-Ok-None.ensures.missing c.in-Ok-None.field-0-is) c.give_up-in-Ok-None.ensures.left,
    )

pub returns-in-Ok-None-clause-stays : goal.returns-in-Ok-None-clause-stays
returns-in-Ok-None-clause-stays c =
    let v = c.args.pass.now.view in
    let b = c.begin_search-at.new.pass.view in
    let x = c.find_aim.new.pass.view in
    stays_more v x c.give_up-in-Ok-None.new.pass.view
    (search_stays c.args.pass.now b x c.begin_search-at.result c.begin_search-at.ensures.opened c.in-Ok-None.ensures.keeps.places.keeps)
    c.give_up-in-Ok-None.ensures.stays

pub returns-in-Ok-None-clause-waits : goal.returns-in-Ok-None-clause-waits
returns-in-Ok-None-clause-waits c =
    searched_waits c.args.pass.now c.begin_search-at.new.pass.view c.find_aim.new.pass.view c.give_up-in-Ok-None.new.pass.view c.begin_search-at.result
    c.begin_search-at.ensures.opened c.in-Ok-None.ensures.keeps.places (ap (λ (n : Counts). n.waits) c.give_up-in-Ok-None.ensures.counts)

-- the search has failed
pub returns-in-Err-clause-missed : goal.returns-in-Err-clause-missed
returns-in-Err-clause-missed c =
    let p = c.args.pass.now in
    let b = c.begin_search-at.new.pass in
    let x = c.find_aim.new.pass in
    let w = c.give_up-in-Err.new.pass in
    let failed = c.in-Err.failed in
    let opened = c.begin_search-at.ensures.opened in (
      counted_still failed p.view x.view w.view
          (opened_counted p b.view x.view c.begin_search-at.result opened failed c.in-Err.ensures.counted) c.give_up-in-Err.ensures.counts,
      others_stay x w c.give_up-in-Err.ensures.same c.in-Err.ensures.alone,
    )

pub returns-in-Err-clause-stays : goal.returns-in-Err-clause-stays
returns-in-Err-clause-stays c =
    let v = c.args.pass.now.view in
    let b = c.begin_search-at.new.pass.view in
    let x = c.find_aim.new.pass.view in
    stays_more v x c.give_up-in-Err.new.pass.view
    (search_stays c.args.pass.now b x c.begin_search-at.result c.begin_search-at.ensures.opened c.in-Err.ensures.given_up.keeps) c.give_up-in-Err.ensures.stays

pub returns-in-Err-clause-waits : goal.returns-in-Err-clause-waits
returns-in-Err-clause-waits c =
    searched_waits c.args.pass.now c.begin_search-at.new.pass.view c.find_aim.new.pass.view c.give_up-in-Err.new.pass.view c.begin_search-at.result
    c.begin_search-at.ensures.opened c.in-Err.ensures.given_up (ap (λ (n : Counts). n.waits) c.give_up-in-Err.ensures.counts)
