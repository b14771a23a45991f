-- A block's lines as its head and the lines after it.
use Rattle.std.proofs.Common.{◌≡◌, ℕ, List, [], length, replicate, get_or, Result, Ok, Err, refl, sym, ap, ◌∙◌, inl}
use Rattle.std.specs.Prelude.{codes}
use Rattle.protocol_lang.specs.Results.{◌>>=◌}
use Rattle.room_spec.specs.Rooms.{RoomSpec}
use Rattle.room_spec.specs.Blocks.{Head, head_in, head_read, inputs_line, name_line, number_line, own_line, protocol_text_in, reduction_head_in, reduction_head_read, reduction_in, reduction_line, reduction_text_in, room_in, rounds_read, rounds_text, version_line, MayLackBy, OrMemory}
use Rattle.room_spec.specs.declared.fault.SpecFault.{SpecFault}
use Rattle.room_spec.specs.declared.fault.SpecFault.TheVariants.{Processes, Simulators}
use Rattle.room_spec.specs.declared.version.Version.{Version}
use Rattle.room_spec.proofs.Memory.{lacks_also}

-- one more line before what is read of the others
later : {A B C : Type 0} (r : Result A SpecFault) (f : A → Result B SpecFault) (next : B → Result C SpecFault) (g : A → Result C SpecFault) → ((x : A) → g x ≡ (f x >>= next)) → (r >>= g) ≡ ((r >>= f) >>= next)
later (Ok x) f next g same = same x
later (Err fault) f next g same = refl

abbrev on_head : {A : Type 0} → (Head → List ℕ → Result A SpecFault) → Head × List ℕ → Result A SpecFault
on_head next head = next head.0 head.1

-- the heads that the first lines begin
abbrev with_simulators : Version → List ℕ → List ℕ → ℕ × List ℕ → Result (Head × List ℕ) SpecFault
with_simulators version name inputs simulators = Ok (record { version = version; name = name; inputs = inputs; own = []; simulators = simulators.0 }, simulators.1)

abbrev with_inputs_line : Version → List ℕ → List ℕ × List ℕ → Result (Head × List ℕ) SpecFault
with_inputs_line version name inputs = number_line 4 (codes "simulators ") 8 Simulators inputs.1 >>= with_simulators version name inputs.0

abbrev with_name : Version → List ℕ × List ℕ → Result (Head × List ℕ) SpecFault
with_name version name = inputs_line name.1 >>= with_inputs_line version name.0

abbrev with_version : Version × List ℕ → Result (Head × List ℕ) SpecFault
with_version version = name_line version.1 >>= with_name version.0

head_first : {A : Type 0} (next : Head → List ℕ → Result A SpecFault) (body : List ℕ) → head_in next body ≡ (head_read body >>= on_head next)
unfolding head_read
head_first next body =
    later (version_line body) with_version (on_head next) _ (λ version.
    later (name_line version.1) (with_name version.0) (on_head next) _ (λ name.
    later (inputs_line name.1) (with_inputs_line version.0 name.0) (on_head next) _ (λ inputs.
    later (number_line 4 (codes "simulators ") 8 Simulators inputs.1) (with_simulators version.0 name.0 inputs.0) (on_head next) _ (λ simulators. refl))))

abbrev with_processes : Version → List ℕ → List ℕ → ℕ × List ℕ → Result (Head × List ℕ) SpecFault
with_processes version name own processes = Ok (record { version = version; name = name; inputs = replicate processes.0 (get_or own 0 0); own = own; simulators = length own }, processes.1)

abbrev with_own : Version → List ℕ → List ℕ × List ℕ → Result (Head × List ℕ) SpecFault
with_own version name own = number_line 4 (codes "processes ") 16 Processes own.1 >>= with_processes version name own.0

abbrev with_reduction_name : Version → List ℕ × List ℕ → Result (Head × List ℕ) SpecFault
with_reduction_name version name = own_line name.1 >>= with_own version name.0

abbrev with_reduction : Version × List ℕ → Result (Head × List ℕ) SpecFault
with_reduction version = name_line version.1 >>= with_reduction_name version.0

reduction_head_first : {A : Type 0} (next : Head → List ℕ → Result A SpecFault) (body : List ℕ) → reduction_head_in next body ≡ (reduction_head_read body >>= on_head next)
unfolding reduction_head_read
reduction_head_first next body =
    later (reduction_line body) with_reduction (on_head next) _ (λ version.
    later (name_line version.1) (with_reduction_name version.0) (on_head next) _ (λ name.
    later (own_line name.1) (with_own version.0 name.0) (on_head next) _ (λ own.
    later (number_line 4 (codes "processes ") 16 Processes own.1) (with_processes version.0 name.0 own.0) (on_head next) _ (λ processes. refl))))

room_by_head : (body : List ℕ) → room_in body ≡ (head_read body >>= on_head rounds_read)
unfolding room_in rounds_read
room_by_head body = head_first _ body

text_by_head : (body : List ℕ) → protocol_text_in body ≡ (head_read body >>= on_head rounds_text)
unfolding protocol_text_in rounds_text
text_by_head body = head_first _ body

reduction_by_head : (body : List ℕ) → reduction_in body ≡ (reduction_head_read body >>= on_head rounds_read)
unfolding reduction_in rounds_read
reduction_by_head body = reduction_head_first _ body

reduction_text_by_head : (body : List ℕ) → reduction_text_in body ≡ (reduction_head_read body >>= on_head rounds_text)
unfolding reduction_text_in rounds_text
reduction_text_by_head body = reduction_head_first _ body

-- what is read after the head is what is read of all lines
whole : (body text : List ℕ) (head : Head) (found : Result (Head × List ℕ) SpecFault) (room_of : Result RoomSpec SpecFault) (text_in : List ℕ → Result (List ℕ) SpecFault) (result : Result RoomSpec SpecFault) → found ≡ Ok (head, text) → room_of ≡ (found >>= on_head rounds_read) → text_in body ≡ (found >>= on_head rounds_text)
    → OrMemory (MayLackBy (rounds_text head) text) result (rounds_read head text) → OrMemory (MayLackBy text_in body) result room_of
whole body text head found room_of text_in result is by_head text_by or =
    let room : room_of ≡ rounds_read head text = by_head ∙ ap (λ (f : Result (Head × List ℕ) SpecFault). f >>= on_head rounds_read) is in
    let protocol : text_in body ≡ rounds_text head text = text_by ∙ ap (λ (f : Result (Head × List ℕ) SpecFault). f >>= on_head rounds_text) is in
    rw room (lacks_also (MayLackBy (rounds_text head) text) (MayLackBy text_in body) result (rounds_read head text) (λ lacks. record { text = lacks.text; head = protocol ∙ lacks.head; lacks = lacks.lacks }) or)

refused_head : (found : Result (Head × List ℕ) SpecFault) (room_of : Result RoomSpec SpecFault) (fault : SpecFault) → found ≡ Err fault → room_of ≡ (found >>= on_head rounds_read) → Err fault ≡ room_of
refused_head found room_of fault is by_head = sym (by_head ∙ ap (λ (f : Result (Head × List ℕ) SpecFault). f >>= on_head rounds_read) is)

pub room_whole : (body text : List ℕ) (head : Head) (result : Result RoomSpec SpecFault) → head_read body ≡ Ok (head, text) → OrMemory (MayLackBy (rounds_text head) text) result (rounds_read head text) → OrMemory (MayLackBy protocol_text_in body) result (room_in body)
room_whole body text head result is or = whole body text head (head_read body) (room_in body) protocol_text_in result is (room_by_head body) (text_by_head body) or

pub room_refused : (body : List ℕ) (fault : SpecFault) → head_read body ≡ Err fault → OrMemory (MayLackBy protocol_text_in body) (Err fault) (room_in body)
room_refused body fault is = inl (refused_head (head_read body) (room_in body) fault is (room_by_head body))

pub reduction_whole : (body text : List ℕ) (head : Head) (result : Result RoomSpec SpecFault) → reduction_head_read body ≡ Ok (head, text) → OrMemory (MayLackBy (rounds_text head) text) result (rounds_read head text) → OrMemory (MayLackBy reduction_text_in body) result (reduction_in body)
reduction_whole body text head result is or = whole body text head (reduction_head_read body) (reduction_in body) reduction_text_in result is (reduction_by_head body) (reduction_text_by_head body) or

pub reduction_refused : (body : List ℕ) (fault : SpecFault) → reduction_head_read body ≡ Err fault → OrMemory (MayLackBy reduction_text_in body) (Err fault) (reduction_in body)
reduction_refused body fault is = inl (refused_head (reduction_head_read body) (reduction_in body) fault is (reduction_by_head body))
