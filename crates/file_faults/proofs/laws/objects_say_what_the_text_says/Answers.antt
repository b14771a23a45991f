use Rattle.file_faults.proofs.Headed.{entry_headed, event_headed, refusal_headed, unread_headed}
use Rattle.file_faults.proofs.laws.objects_say_what_the_text_says.Goals as goal

pub returns : goal.returns
returns c = record { entries = entry_headed; events = event_headed; refusals = refusal_headed; unread = unread_headed }
