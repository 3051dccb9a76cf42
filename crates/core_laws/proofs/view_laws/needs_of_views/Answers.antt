use Rattle.core_laws.proofs.AnnounceNeeds.{may_announce_law, may_take_back_law, may_look_ann_law}
use Rattle.core_laws.proofs.CutNeeds.{may_cut_law}
use Rattle.core_laws.proofs.PlainNeeds.{may_read_link_law, may_set_link_law, may_read_tag_law, may_set_tag_law}
use Rattle.core_laws.proofs.ViewNeeds.{may_enter_law, may_leave_law, may_look_law, may_fill_law, may_load_stamp_law, may_fix_law, may_read_head_law, may_read_number_law, may_read_child_law, may_read_next_law, may_prepare_law, may_finalise_law, may_lock_law, may_unlock_law, may_read_mark_law, may_mark_law, may_read_key_law, may_read_val_law, may_split_law, may_join_law}
use Rattle.core_laws.proofs.Waits.{may_leave_waiting_law, may_look_waiting_law}
use Rattle.core_laws.proofs.view_laws.needs_of_views.Goals as goal

pub returns : goal.returns
returns c = record {
  enter = may_enter_law;
  leave = may_leave_law;
  look = may_look_law;
  leave_waiting = may_leave_waiting_law;
  look_waiting = may_look_waiting_law;
  fill = may_fill_law;
  load_stamp = may_load_stamp_law;
  fix = may_fix_law;
  announce = may_announce_law;
  take_back = may_take_back_law;
  look_ann = may_look_ann_law;
  read_head = may_read_head_law;
  read_number = may_read_number_law;
  read_child = may_read_child_law;
  read_next = may_read_next_law;
  prepare = may_prepare_law;
  finalise = may_finalise_law;
  lock = may_lock_law;
  unlock = may_unlock_law;
  read_mark = may_read_mark_law;
  mark = may_mark_law;
  cut = may_cut_law;
  read_link = may_read_link_law;
  set_link = may_set_link_law;
  read_tag = may_read_tag_law;
  set_tag = may_set_tag_law;
  read_key = may_read_key_law;
  read_val = may_read_val_law;
  split = may_split_law;
  join = may_join_law;
}
