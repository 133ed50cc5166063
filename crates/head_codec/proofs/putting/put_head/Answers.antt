use Rattle.bbs_codec.proofs.Public.{Puts-front}
use Rattle.head_codec.proofs.PutTexts.{Puts-behind}
use Rattle.head_codec.proofs.putting.put_head.Goals as goal

pub returns-clause-bytes : goal.returns-clause-bytes
returns-clause-bytes c = Puts-front c.put_tables.ensures

pub returns-clause-rest : goal.returns-clause-rest
returns-clause-rest c = Puts-behind c.put_tables.ensures
