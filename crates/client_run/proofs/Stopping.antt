-- What is left of a pass when a client's run was stopped.
use Rattle.std.proofs.Common.{ℕ, List, ◌++◌, Option, Result, Ok, Err, ap, ◌∙◌, arith, append_assoc}
use Rattle.std.specs.Result.{OnErr}
use Rattle.key_map.specs.declared.update.Update.{Update}
use Rattle.bucket_terms.specs.declared.reply.Reply.{Reply}
use Rattle.bucket_terms.specs.PassView.{PassView, Continues}
use Rattle.bucket_terms.specs.LegalRun.{Answered}
use Rattle.client_run.specs.ClientRun.{Answers, Stopped}

-- what is known whatever the answer is known after an error
pub after_error : {T E P : Type 0} → (r : Result T E) → P → OnErr r P
after_error (Ok x) p = tt
after_error (Err e) p = p

-- stopped in a later call
pub stopped_later : (old mid now : PassView) → Continues old mid → Stopped mid now → Stopped old now
stopped_later old mid now before stopped = record {
  closed = stopped.closed;
  number = stopped.number ∙ before.number;
  seen = (before.seen.0 ++ stopped.seen.0, stopped.seen.1 ∙ ap (λ (us : List Update). us ++ stopped.seen.0) before.seen.1 ∙ append_assoc old.seen before.seen.0 stopped.seen.0);
  looks = omega (arith, before.looks, stopped.looks);
}

-- stopped after an answer
pub stopped_behind : (dir : List (List ℕ)) (old mid now : PassView) (last : Option Reply) (a : Answered) → Continues old mid → Answers dir mid now last a → Stopped old now
stopped_behind dir old mid now last a before answer =
    stopped_later old mid now before (record { closed = answer.closed; number = answer.continues.number; seen = answer.continues.seen; looks = answer.continues.looks })
