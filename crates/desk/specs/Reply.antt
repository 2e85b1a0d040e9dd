-- The answer to a line (document 01, 'Command lines'): number, node under the named list's cursor, node handed out.
use Rattle.std.specs.Prelude.{ℕ, cond, Option, Some, None, is_err}
use Rattle.words.specs.declared.names.Node.{Node}
use Rattle.words.specs.Names.{decoding}
use Rattle.answers.specs.declared.Refusal.{Refusal}
use Rattle.answers.specs.Answer.{number, answer_number, handed}
use Rattle.audit.specs.declared.Audited.{Audited}
use Rattle.lines.specs.declared.answer.Reply.{Reply}
use Rattle.lines.specs.Answers.{reply}
use Rattle.desk.specs.declared.Worked.{Worked}

-- The field for no node: ffff.
abbrev pub no_node : ℕ
no_node = 65535

abbrev pub shown : Option Node → ℕ
shown (Some i) = i.0
shown None = no_node

-- To a command on lists, in a pool of n.
unfoldable pub reply_to : ℕ → Worked → Reply
reply_to n w = reply (answer_number w.answer) (shown (decoding n w.named.cursor.current)) (shown (handed w.answer))

-- To an audit: nodes on lists and stranded nodes; refused, neither.
unfoldable pub reply_to_audit : Audited → Reply
reply_to_audit a =
    cond (is_err a.answer) (reply (answer_number a.answer) no_node no_node) (reply 0 a.on_lists a.stranded)

-- To a line that comes to no command on a list: 1, 2, 11.
unfoldable pub reply_unread : Refusal → Reply
reply_unread r = reply (number r) no_node no_node
