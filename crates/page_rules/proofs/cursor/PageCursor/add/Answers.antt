use Rattle.std.proofs.Common.{◌≡◌, ◌<◌, false, [], ◌∷◌, ◌++◌, length, Some, sym, ap, subst, ◌∙◌}
use Rattle.key_names.specs.Ranks.{is_before}
use Rattle.bucket_terms.specs.Listing.{entry_point}
use Rattle.page_rules.specs.PageLaw.{entry_text}
use Rattle.page_rules.specs.Cursor.{GoesOnAt}
use Rattle.page_rules.specs.CursorInside.{view_of}
use Rattle.page_rules.proofs.Taken.{next_rank, unsettled_at, text_not_below, took_added}
use Rattle.page_rules.proofs.cursor.PageCursor.add.Goals as goal

pub rank_behind-requires-clause-listed : goal.rank_behind-requires-clause-listed
rank_behind-requires-clause-listed c =
    let v = view_of c.self.inside in
    let listed = rw (← c.self.view_is) at c.requires.listed in
    let entry = rw (← c.self.view_is) at c.requires.entry in
    subst (λ e. is_before (entry_text v.dir e) v.query.prefix ≡ false) (sym entry) (text_not_below v.dir v.query c.args._pair.now listed)

pub returns-clause-took : goal.returns-clause-took
returns-clause-took c =
    let v = view_of c.self.inside in
    let next = next_rank v (rw (← c.self.view_is) at c.requires.some) in
    let entry = rw (← c.self.view_is) at c.requires.entry in
    let listed = rw (← c.self.view_is) at c.requires.listed in
    let room : length v.entries < v.query.max_keys = rw (← c.self.view_is) at c.requires.room in
    let goes = subst (λ e. GoesOnAt v.dir v.query (Some (entry_point v.dir e)) c.rank_behind.result) entry c.rank_behind.ensures in
    let items = c.in_ok-push.ensures.ok ∙ ap (λ e. v.entries ++ e ∷ []) entry in
    rw (c.note_ranks.ensures, ← c.self.view_is) (took_added v next.0 c.args._pair.now c.push.new.self c.rank_behind.result c.len-names.ensures.rising room next.1
    (unsettled_at v next.0 c.self.invariant.0 next.1) listed goes items)
