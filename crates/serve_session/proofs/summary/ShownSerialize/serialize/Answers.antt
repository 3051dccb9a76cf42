use Rattle.std.proofs.Common.{refl}
use Rattle.std.proofs.lemmas.Result.{on_ok_weaker}
use Rattle.serve_session.proofs.Sent.{object_sent}
use Rattle.serve_session.specs.Texts.{summary_members}
use Rattle.serve_session.proofs.summary.ShownSerialize.serialize.Goals as goal

pub returns : goal.returns
returns g c =
    let w = g.S.Serializer.written in
    on_ok_weaker c.end_map.result
    (object_sent (summary_members c.args.self.now.summary) 4 _ (w c.begin_map.new.self) (w c.send_number-4.new.out) _ refl c.in_ok-begin_map.ensures (
      w c.send_number.new.out,
      c.in_ok-send_number.ensures,
      (
        w c.send_number-2.new.out,
        c.in_ok-send_number-2.ensures,
        (w c.send_number-3.new.out, c.in_ok-send_number-3.ensures, (w c.send_number-4.new.out, c.in_ok-send_number-4.ensures, refl)),
      ),
    ))
    c.end_map.ensures
