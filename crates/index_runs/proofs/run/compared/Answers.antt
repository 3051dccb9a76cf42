use Rattle.std.proofs.Common.{List, [], ◌∷◌, ◌++◌, subst, sym}
use Rattle.key_map.specs.Lists.{Every}
use Rattle.table_rule.specs.Homes.{Home}
use Rattle.table_steps.specs.Passes.{Pass, IsPassOf}
use Rattle.shared_index.specs.Keys.{AreAllKeys, IsKeyOf}
use Rattle.shared_index.proofs.KeyHomes.{of_table}
use Rattle.index_runs.proofs.Keys.{last_back, last_key}
use Rattle.index_runs.proofs.run.compared.Goals as goal

pub compare_by-key-requires : goal.compare_by-key-requires
compare_by-key-requires c =
    let index : Home = c.args.index.now in
    let last : Pass = c.in-Some.last in
    let all : Every (IsKeyOf index) (c.pop.new.self.items ++ last ∷ []) = subst (λ (ks : List Pass). Every (IsKeyOf index) ks) c.in-Some.ensures.items c.requires.all.of in
    record { of = subst (λ (home : Home). IsPassOf home last) (sym c.table.ensures) (of_table index last (last_key index c.pop.new.self.items last all)) }

pub returns : goal.returns
returns c =
    let index : Home = c.args.index.now in
    let last : Pass = c.in-Some.last in
    let key : Pass = c.compare_by-key.result.0 in
    let back = c.compare_by-key.ensures.back in
    let all : AreAllKeys index (c.pop.new.self.items ++ last ∷ []) = subst (λ (ks : List Pass). AreAllKeys index ks) c.in-Some.ensures.items c.requires.all in
    let of : IsPassOf index key = subst (λ (home : Home). IsPassOf home key) c.table.ensures back.of in
    record {
      all = subst (λ (ks : List Pass). AreAllKeys index ks) (sym c.in_ok-push.ensures.items) (last_back index c.pop.new.self.items last key all of back.number);
    }
