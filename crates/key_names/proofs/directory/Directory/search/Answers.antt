use Rattle.std.proofs.Common.{rules}
use Rattle.std.proofs.lemmas.Fn.{always_returns_same}
use Rattle.key_names.specs.Names.{byte_order}
use Rattle.key_names.proofs.ByteOrder.{found_rank, not_found}
use Rattle.key_names.proofs.directory.Directory.search.Goals as goal

pub returns : goal.returns
returns c =
    let facts = c.binary_search_by.ensures in
    let position = facts.position (λ here. byte_order here c.args.name.now) (always_returns_same _ _ _ (λ a r g called. search rules)) in
    let value = c.deref.ensures.value in
    record {
      found = rw (← c.self.view_is, ← value) (found_rank _ _ _ facts.bound position);
      absent = rw (← c.self.view_is, ← value) (not_found _ _ _ (rw value c.self.invariant.rising) position);
    }
