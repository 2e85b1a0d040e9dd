-- The ends of a list. Every pair of ends that a definition makes is made here.
use Rattle.std.specs.Prelude.{Bool}
use Rattle.words.specs.declared.names.Name.{Name}
use Rattle.words.specs.Names.{null, is_null}
use Rattle.answers.specs.Answer.{Answer}
use Rattle.ends.specs.declared.Ends.{Ends}
use Rattle.ends.specs.declared.ListEdited.{ListEdited}

abbrev pub ends_of : Name → Name → Ends
ends_of h t = record { head = h; tail = t }

abbrev pub empty_ends : Ends
empty_ends = ends_of null null

abbrev pub is_empty : Ends → Bool
is_empty e = is_null e.head

-- Head and tail exchanged.
abbrev pub turned : Ends → Ends
turned e = ends_of e.tail e.head

-- What a call on a list by its ends hands back.
abbrev pub list_edited : Answer → Ends → ListEdited
list_edited a e = record { answer = a; ends = e }
