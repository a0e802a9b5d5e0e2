-- `locale_order_lines::name_facts` meets its contract: of a character and of another name.
use Rattle.locale_order_lines.proofs.FactLaws.{told_char, told-other}
use Rattle.locale_order_lines.proofs.name_facts.Goals as goal

pub returns-in-Some : goal.returns-in-Some
returns-in-Some c = search told_char

pub returns-in-None : goal.returns-in-None
returns-in-None c = search told-other
