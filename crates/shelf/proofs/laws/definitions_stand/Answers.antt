use Rattle.shelf.proofs.Seats.{finds_free}
use Rattle.shelf.proofs.Wholes.{every_byte}
use Rattle.shelf.proofs.laws.definitions_stand.Goals as goal

pub returns-clause-bytes : goal.returns-clause-bytes
returns-clause-bytes c = every_byte

pub returns-clause-free : goal.returns-clause-free
returns-clause-free c = finds_free
