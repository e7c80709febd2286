use Rattle.engine_laws.proofs.Unwritten.{messages-elsewhere, messages-silent, rest-elsewhere, rest-written}
use Rattle.engine_laws.proofs.line_numbers.no_line_comes_back.Goals as goal

pub returns-clause-messages : goal.returns-clause-messages
returns-clause-messages c = λ product state messages firm low high most. messages-elsewhere firm low high product state messages most

pub returns-clause-rest : goal.returns-clause-rest
returns-clause-rest c = λ history messages pairs more firm low high most is. rest-elsewhere firm low high history messages pairs more most is

pub returns-clause-silent : goal.returns-clause-silent
returns-clause-silent c = λ text product state messages firm low high only most. messages-silent firm low high text only product state messages most

pub returns-clause-written : goal.returns-clause-written
returns-clause-written c = λ line history messages pairs firm low high only most. rest-written firm low high line only history messages pairs most
