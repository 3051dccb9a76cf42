use Rattle.core_laws.proofs.PlainTrees.{plain_tree_law, plain_link_law, plain_tag_law, tag_room_law}
use Rattle.core_laws.proofs.view_laws.where_plain_links_lead.Goals as goal

pub returns : goal.returns
returns c = record { tree = plain_tree_law; link = plain_link_law; tag = plain_tag_law; room = tag_room_law }
