use Rattle.client_threads.proofs.SlotsSuffice.{slots_suffice as suffices, own_slots_suffice}
use Rattle.client_threads.proofs.slots.slots_suffice.Goals as goal

pub returns : goal.returns
returns c = record { enough = suffices; own = own_slots_suffice }
