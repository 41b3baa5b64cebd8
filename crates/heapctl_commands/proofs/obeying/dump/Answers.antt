use Rattle.heapctl_commands.proofs.obeying.dump.Goals as goal

pub returns-in-Cells-clause-ends : goal.returns-in-Cells-clause-ends
returns-in-Cells-clause-ends g c = rw c.in-Cells.is (c.dump_cells_at.result, c.on_named-in-Cells.ensures, c.dump_cells_at.ensures.ends)

pub returns-in-SlotA-clause-ends : goal.returns-in-SlotA-clause-ends
returns-in-SlotA-clause-ends g c = rw c.in-SlotA.is (c.dump_slot_at.result, c.on_named-in-SlotA.ensures, c.dump_slot_at.ensures.ends)

pub returns-in-SlotB-clause-ends : goal.returns-in-SlotB-clause-ends
returns-in-SlotB-clause-ends g c = rw c.in-SlotB.is (c.dump_slot_at-in-SlotB.result, c.on_named-in-SlotB.ensures, c.dump_slot_at-in-SlotB.ensures.ends)
