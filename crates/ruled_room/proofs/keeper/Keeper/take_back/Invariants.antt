use Rattle.ruled_room.proofs.keeper.Keeper.take_back.Given as goal

abbrev pub ghosts-mend : goal.ghosts-mend
ghosts-mend a = record { number = a.number; spec = a.room.now.spec }
