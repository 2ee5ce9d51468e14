use Rattle.symbols_read_back.proofs.Tables.{symbols_back}
use Rattle.symbols_read_back.proofs.symbol_tables_read_back.Goals as goal

pub returns : goal.returns
returns c = symbols_back
