-- A session under the header of format 2.
use Rattle.def_language.specs.Sessions.{SessionData}

-- the same session in format 2, whose limits are no smaller
abbrev pub upgraded : SessionData → SessionData
upgraded s = record s { format = 2 }
