-- `locale_category::stray_refusal` meets its contract.
use Rattle.locale_category.proofs.CategoryLaws.{stray-is}
use Rattle.locale_category.proofs.stray_refusal.Goals as goal

pub returns : goal.returns
returns c = search stray-is
