-- A place in a static object, of the code, as the address of the definition.
use Rattle.ob_typed.specs.AddressConstants.{Address}
use Rattle.ob_consts.specs.declared.places.StaticPlace.{StaticPlace}

abbrev pub shown : StaticPlace → Address
shown a = record { target = a.target; offset = a.offset }
