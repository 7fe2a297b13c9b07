-- What each case of an answer reports (Rule 9.2). `Report` is that of `der`.
use Rattle.std.specs.Prelude.{[]}
use Rattle.std.specs.Prelude.{Err, Ok, Result}
use Rattle.der.specs.Report.{Report, passing, refusing}
use Rattle.der.specs.declared.Fault.{Fault}
use Rattle.pkcs12.specs.Report.{attribute_values}
use Rattle.attributes.specs.declared.Item.{Item}
use Rattle.attributes.specs.declared.Item.TheVariants.{Ready, Done}

-- what a call returned: of an attribute its bag, its identifier and its values from and to
unfoldable pub item_report : Result Item Fault → Report
item_report (Ok Ready) = passing []
item_report (Ok (Item.Attribute r)) = passing (attribute_values r)
item_report (Ok Done) = passing []
item_report (Err f) = refusing f
