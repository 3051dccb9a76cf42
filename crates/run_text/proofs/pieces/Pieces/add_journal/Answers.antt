use Rattle.std.proofs.Common.{ℕ, length, take, drop, ap, ◌∙◌, refl, sym, arith, rules}
use Rattle.run_text.proofs.Cuts.{one_journal_cut}
use Rattle.run_text.proofs.pieces.Pieces.add_journal.Goals as goal

pub loop-left-preserved : goal.loop-left-preserved
loop-left-preserved c =
    let front = c.split_at.result.0.now in
    record {
      count = c.loop-left.invariant.count;
      left =
          rw c.in_ok-push.ensures.items
          (one_journal_cut c.args.self.now c.args.updates.now c.loop-left.self-inside.pieces.items c.loop-left.before c.loop-left.left.now front c.split_at.result.1.now (length front) _
          (c.split_at.ensures.front ∙ ap (λ (n : ℕ). take n c.loop-left.left.now) (sym c.split_at.ensures.front_len)) (c.split_at.ensures.back ∙ ap (λ (n : ℕ). drop n c.loop-left.left.now) (sym c.split_at.ensures.front_len)) (omega (arith, c.split_at.ensures.front_len, c.split_at.ensures.back_len)) (search rules) (λ dir records. refl) (λ dir records fine. fine) c.loop-left.invariant.left);
    }
