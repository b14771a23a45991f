use Rattle.ruled_room.proofs.keeper.Keeper.give.Given as goal

abbrev pub ghosts-cut : goal.ghosts-cut
ghosts-cut a = record { number = a.number; spec = a.room.now.spec }
