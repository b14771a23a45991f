-- A step counts writes and stores decisions of no process but that of its turn, and at two lines only.
use Rattle.std.proofs.Common.{◌≡◌, ◌≢◌, ◌⊎◌, ℕ, ◌+◌, [], ◌∷◌, ◌++◌, inl, inr, sym, ap, ◌∙◌}
use Rattle.room_spec.specs.Rooms.{RoomSpec, IsWithinLimits}
use Rattle.simulator.specs.declared.line.Line.TheVariants.{Raise, Out}
use Rattle.room_core.specs.Rooms.{Configuration, HasLine, IsOneInterleaving, steps}
use Rattle.room_core.specs.Fields.{Fields, line, opening_fields, replay_fields}
use Rattle.room_core.specs.Agreements.{greatest_step, has_out}
use Rattle.room_core.proofs.fields.FieldReplays.{stands_for}
use Rattle.room_core.proofs.fields.Prefixes.{replay_fields-snoc}
use Rattle.room_core.proofs.fields.Replays.{shapes}
use Rattle.room_core.proofs.fields.Effects.{IsLineOf, line_effect, own_of}
use Rattle.room_core.proofs.points.OwnMoves.{OwnMove, rests, counts, scanning, storing, own_move}
use Rattle.room_core.proofs.points.Timelines.{counted_same, out_same, outs_same, raised_else, steps_same, stored_else}

module _ (spec : RoomSpec) (before after : Fields) (i : ℕ) (effect : IsLineOf spec before after i) (p : ℕ) where
  same_counts : after.step i ≡ before.step i → greatest_step spec after p ≡ greatest_step spec before p
  same_counts same = counted_same spec before after p (λ a below. steps_same spec before after i effect same a p)

  same_outs : after.out i ≡ before.out i → has_out spec after p ≡ has_out spec before p
  same_outs same = out_same spec before after p (λ a below. outs_same spec before after i effect same a p)

  uncounted_by : OwnMove spec (own_of before i) (own_of after i) → ((before.mind i).line ≢ Raise) ⊎ (p ≢ (before.mind i).process) → greatest_step spec after p ≡ greatest_step spec before p
  uncounted_by (rests other same same') why = same_counts same
  uncounted_by (counts turn count same same') (inl elsewhere) = absurd (elsewhere turn.stands)
  uncounted_by (counts turn count same same') (inr apart) = counted_same spec before after p (λ a below. raised_else spec before after i effect (before.mind i).process p a apart same)
  uncounted_by (scanning turn count none same same') why = same_counts same
  uncounted_by (storing decision turn count same same') why = same_counts same

  unstored_by : OwnMove spec (own_of before i) (own_of after i) → ((decision : ℕ) → (before.mind i).line ≢ Out decision) ⊎ (p ≢ (before.mind i).process) → has_out spec after p ≡ has_out spec before p
  unstored_by (rests other same same') why = same_outs same'
  unstored_by (counts turn count same same') why = same_outs same'
  unstored_by (scanning turn count none same same') why = same_outs same'
  unstored_by (storing decision turn count same same') (inl elsewhere) = absurd (elsewhere decision turn.stands)
  unstored_by (storing decision turn count same same') (inr apart) = out_same spec before after p (λ a below. stored_else spec before after i effect (before.mind i).process p a (decision + 1) apart same')

module _ (room : Configuration) (limits : IsWithinLimits room.spec) (one : IsOneInterleaving room) (i : ℕ) (may : HasLine room i) (p : ℕ) where
  abbrev fields : Fields
  fields = replay_fields room.spec (opening_fields room.spec) one.schedule

  effect : IsLineOf room.spec (replay_fields room.spec (opening_fields room.spec) one.schedule) (line room.spec (replay_fields room.spec (opening_fields room.spec) one.schedule) i) i
  effect = line_effect room fields i (shapes room limits one) (stands_for room limits one) may

  next : replay_fields room.spec (opening_fields room.spec) (one.schedule ++ steps i ∷ []) ≡ line room.spec (replay_fields room.spec (opening_fields room.spec) one.schedule) i
  next = replay_fields-snoc room.spec (opening_fields room.spec) one.schedule (steps i)

  pub left_uncounted : ((fields.mind i).line ≢ Raise) ⊎ (p ≢ (fields.mind i).process)
      → greatest_step room.spec (replay_fields room.spec (opening_fields room.spec) (one.schedule ++ steps i ∷ [])) p ≡ greatest_step room.spec (replay_fields room.spec (opening_fields room.spec) one.schedule) p
  left_uncounted why =
      ap (λ (f : Fields). greatest_step room.spec f p) next
      ∙ uncounted_by room.spec fields (line room.spec fields i) i effect p (own_move room.spec fields (own_of fields i) (own_of (line room.spec fields i) i) effect.own) why

  pub left_unstored : ((decision : ℕ) → (fields.mind i).line ≢ Out decision) ⊎ (p ≢ (fields.mind i).process)
      → has_out room.spec (replay_fields room.spec (opening_fields room.spec) (one.schedule ++ steps i ∷ [])) p ≡ has_out room.spec (replay_fields room.spec (opening_fields room.spec) one.schedule) p
  left_unstored why =
      ap (λ (f : Fields). has_out room.spec f p) next
      ∙ unstored_by room.spec fields (line room.spec fields i) i effect p (own_move room.spec fields (own_of fields i) (own_of (line room.spec fields i) i) effect.own) why
